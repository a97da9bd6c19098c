-- A patch at its start, over a block whose tree stands on its side.
use Rattle.std.proofs.Common.{ap, map, subst, sym}
use Rattle.std.proofs.lemmas.Result.{IfOk-weaker}
use Rattle.tree_edits.specs.Documents.{edit_of}
use Rattle.rt_tree.specs.Awaits.{awaited}
use Rattle.rt_tree.specs.Plans.{KeepsOf}
use Rattle.rt_tree.proofs.Told.{both_ok}
use Rattle.rt_tree.proofs.patch.Patch.over.Goals as goal

pub returns-clause-kept : goal.returns-clause-kept
returns-clause-kept g c =
    both_ok c.start.result _ _ _ (λ patch kept same. subst (λ o. KeepsOf o c.args.node patch.new.side) (sym same) kept) c.start.ensures.kept c.start.ensures.old

pub returns-clause-none : goal.returns-clause-none
returns-clause-none g c = IfOk-weaker c.start.result _ _ (λ patch h. ap (λ es. map edit_of es) h) c.start.ensures.none

pub returns-clause-free : goal.returns-clause-free
returns-clause-free g c = IfOk-weaker c.start.result _ _ (λ patch h. ap awaited h) c.start.ensures.free
