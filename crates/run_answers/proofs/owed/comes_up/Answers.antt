use Rattle.std.proofs.Common.{◌||◌, ◌∙◌, ap, sym, refl}
use Rattle.run_state.specs.Mirror.{state_of}
use Rattle.run_answers.specs.Owed.{any_active, sees_any}
use Rattle.run_answers.proofs.owed.comes_up.Goals as goal

pub returns-else-not-sees_none : goal.returns-else-not-sees_none
returns-else-not-sees_none g c =
    λ kept.
    let w = state_of kept c.args.state.now in
    c.any_queued.ensures kept
    ∙ ap (λ xs. sees_any xs || any_active w.tasks w.queued) (sym (c.if-not-sees_none.ensures.empty.0 refl))
