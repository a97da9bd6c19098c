-- The new tree is there.
use Rattle.rt_model.proofs.Maps.{none_some}
use Rattle.rt_tree.proofs.patch.block_for.Goals as goal

pub invariant_of-block : goal.invariant_of-block
invariant_of-block g c = record { there = λ none. none_some none c.in_ok-side.ensures.tree }
