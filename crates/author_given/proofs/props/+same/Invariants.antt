-- What was passed is equal.
use Rattle.std.proofs.Common.{◌≡◌, take, length}
use Rattle.author_given.proofs.props.+same.Given as goal

abbrev pub invariant-all_alike-loop-at : goal.invariant-all_alike-loop-at
invariant-all_alike-loop-at g l = (length l.left ≡ length l.right) × (take l.at l.left ≡ take l.at l.right)
