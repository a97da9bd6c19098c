-- So far the two slices agree.
use Rattle.std.proofs.Common.{◌≡◌, take, length}
use Rattle.rt_values.proofs.list.same_slice.Given as goal

abbrev pub invariant-loop-at : goal.invariant-loop-at
invariant-loop-at given state = (length state.left ≡ length state.right) × (take state.at state.left ≡ take state.at state.right)
