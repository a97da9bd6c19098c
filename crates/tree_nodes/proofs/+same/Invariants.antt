-- What was passed is equal.
use Rattle.std.proofs.Common.{◌≡◌, take, length}
use Rattle.tree_nodes.proofs.+same.Given as goal

abbrev pub invariant-equality::same_values-loop-at : goal.invariant-equality::same_values-loop-at
invariant-equality::same_values-loop-at g l = (length l.left ≡ length l.right) × (take l.at l.left ≡ take l.at l.right)

abbrev pub invariant-equality::same_trees-loop-at : goal.invariant-equality::same_trees-loop-at
invariant-equality::same_trees-loop-at g l = (length l.left ≡ length l.right) × (take l.at l.left ≡ take l.at l.right)
