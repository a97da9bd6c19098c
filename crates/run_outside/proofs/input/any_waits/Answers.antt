use Rattle.std.proofs.Common.{◌∙◌, ap, sym}
use Rattle.run_state.specs.Mirror.{state_of}
use Rattle.run_outside.specs.Hearings.{has_waiting, listeners_in}
use Rattle.run_outside.proofs.input.any_waits.Goals as goal

pub returns-in-Some : goal.returns-in-Some
returns-in-Some g c =
    λ kept. c.waits.ensures kept ∙ sym (ap (λ h. has_waiting (state_of kept c.args.state.now) (listeners_in h)) c.in-Some.is)

pub returns-in-None : goal.returns-in-None
returns-in-None g c = λ kept. sym (ap (λ h. has_waiting (state_of kept c.args.state.now) (listeners_in h)) c.in-None.is)
