-- The order of listeners doesn't tell whether one waits.
use Rattle.std.proofs.Common.{◌∙◌, ap, sym}
use Rattle.run_state.specs.Mirror.{state_of}
use Rattle.run_shown.specs.Hearing.{listeners_of}
use Rattle.run_outside.specs.Hearings.{has_waiting}
use Rattle.run_outside.proofs.Waiting.{waits_back}
use Rattle.run_outside.proofs.input.waits.Goals as goal

pub returns : goal.returns
returns g c =
    λ kept.
    let w = state_of kept c.args.state.now in
    c.has_live.ensures kept ∙ sym (waits_back w c.last_first.result.now) ∙ ap (λ xs. has_waiting w (listeners_of xs)) (sym c.last_first.ensures.items)
