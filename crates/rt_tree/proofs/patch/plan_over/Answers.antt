-- The plan has the marks of both trees, or of the new one alone.
use Rattle.std.proofs.Common.{[], ◌++◌, ◌∙◌, ap, map, subst, sym}
use Rattle.rt_model.specs.Tree.{spots}
use Rattle.tree_marks.specs.Marks.{come}
use Rattle.tree_mirror.specs.Sealed.{tree_of}
use Rattle.run_met.specs.Mets.{marks_of}
use Rattle.run_met.proofs.Planned.{planned}
use Rattle.rt_tree.specs.Plans.{PlansOver}
use Rattle.rt_tree.proofs.patch.plan_over.Goals as goal

pub returns-in_ok-walk-in-Some : goal.returns-in_ok-walk-in-Some
returns-in_ok-walk-in-Some g c =
    let w = c.in_ok-walk-in-Some.ensures in
    subst (λ o. PlansOver o c.args.tree.now c.walk.new.out.plan) (sym c.in-Some.is)
    (λ app tests. planned w.0 _ _ w.1 ∙ ap (λ xs. marks_of xs ++ w.0) c.new.ensures.empty ∙ w.2 app tests)

pub returns-in_ok-walk_new-in-None : goal.returns-in_ok-walk_new-in-None
returns-in_ok-walk_new-in-None g c =
    let ms = map come (spots [] (tree_of c.args.tree.now)) in
    subst (λ o. PlansOver o c.args.tree.now c.walk_new.new.out.plan) (sym c.in-None.is)
    (planned ms _ _ c.in_ok-walk_new-in-None.ensures ∙ ap (λ xs. marks_of xs ++ ms) c.new.ensures.empty)
