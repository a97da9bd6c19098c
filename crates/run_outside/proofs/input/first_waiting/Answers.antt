use Rattle.std.proofs.Common.{◌∙◌, sym, refl}
use Rattle.run_state.specs.Mirror.{state_of}
use Rattle.run_shown.specs.Hearing.{listeners_of}
use Rattle.run_outside.proofs.Waiting.{none_waits, takes_waiting}
use Rattle.run_outside.proofs.input.first_waiting.Goals as goal

pub returns-then-not-waits : goal.returns-then-not-waits
returns-then-not-waits g c =
    λ kept. (none_waits (state_of kept c.args.state.now) (listeners_of c.args.listeners.now) (sym (c.waits.ensures kept) ∙ c.if-not-waits.true), refl)

pub returns : goal.returns
returns g c =
    λ kept.
    takes_waiting (state_of kept c.args.state.now) c.args.listeners.now c.leave_live.new.listeners c.take_first.new.self c.take_first.result
    (sym (c.waits.ensures kept) ∙ c.if-not-waits.false) (c.in_ok-leave_live.ensures kept) c.take_first.ensures.first
