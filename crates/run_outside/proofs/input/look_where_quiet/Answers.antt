use Rattle.std.proofs.Common.{◌∙◌, ap, sym}
use Rattle.run_state.specs.Mirror.{state_of}
use Rattle.run_outside.specs.Hearings.{hearing_at}
use Rattle.run_outside.proofs.Said.{on_ok}
use Rattle.run_outside.proofs.Waiting.{loud_looks, quiet_looks}
use Rattle.run_outside.proofs.input.look_where_quiet.Goals as goal

pub returns-then-any_waits : goal.returns-then-any_waits
returns-then-any_waits g c = λ kept m. loud_looks (hearing_at m (state_of kept c.args.state.now) c.args.hearing.now) (sym (c.any_waits.ensures kept) ∙ c.if-any_waits.true)

pub returns : goal.returns
returns g c =
    on_ok c.look.result c.look.ensures.looked
    (
    λ h kept m.
    quiet_looks (hearing_at m (state_of kept c.args.state.now) c.args.hearing.now) (sym (c.any_waits.ensures kept) ∙ c.if-any_waits.false)
    ∙ ap (λ w. hearing_at m w c.args.hearing.now) (sym (h kept))
    )
