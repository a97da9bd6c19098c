use Rattle.std.proofs.Common.{◌∙◌, ap, sym}
use Rattle.rt_model.specs.Rendering.{is_thawed}
use Rattle.run_state.specs.Mirror.{state_of}
use Rattle.run_answers.proofs.passing.may_rerun.Goals as goal

pub returns-in-Some : goal.returns-in-Some
returns-in-Some g c =
    λ kept.
    let w = state_of kept c.args.state.now in
    c.is_thawed.ensures kept ∙ ap (λ o. is_thawed w o) (sym c.in-Some.is ∙ c.suspense_context.ensures kept)

pub returns-in-None : goal.returns-in-None
returns-in-None g c =
    λ kept.
    let w = state_of kept c.args.state.now in
    ap (λ o. is_thawed w o) (sym c.in-None.is ∙ c.suspense_context.ensures kept)
