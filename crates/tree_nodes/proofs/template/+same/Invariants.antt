-- The nodes that were passed are equal.
use Rattle.std.proofs.Common.{◌≡◌, take, length}
use Rattle.tree_nodes.proofs.template.+same.Given as goal

abbrev pub invariant-same_nodes-loop-at : goal.invariant-same_nodes-loop-at
invariant-same_nodes-loop-at l = (length l.left ≡ length l.right) × (take l.at l.left ≡ take l.at l.right)
