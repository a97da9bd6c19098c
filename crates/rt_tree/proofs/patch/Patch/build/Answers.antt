-- A patch at its start, over a side on which nothing stands.
use Rattle.std.proofs.Common.{ap, map, subst}
use Rattle.std.proofs.lemmas.Result.{IfOk-weaker}
use Rattle.tree_edits.specs.Documents.{edit_of}
use Rattle.rt_tree.specs.Awaits.{awaited}
use Rattle.rt_tree.specs.Plans.{PlansOver}
use Rattle.rt_tree.proofs.patch.Patch.build.Goals as goal

pub returns-clause-marks : goal.returns-clause-marks
returns-clause-marks g c =
    IfOk-weaker c.start.result _ _ (λ patch h. subst (λ o. PlansOver o c.args.node patch.plan.items) c.empty.ensures.bare.output h) c.start.ensures.marks

pub returns-clause-none : goal.returns-clause-none
returns-clause-none g c = IfOk-weaker c.start.result _ _ (λ patch h. ap (λ es. map edit_of es) h) c.start.ensures.none

pub returns-clause-free : goal.returns-clause-free
returns-clause-free g c = IfOk-weaker c.start.result _ _ (λ patch h. ap awaited h) c.start.ensures.free
