-- So far each item was copied.
use Rattle.std.proofs.Common.{◌≡◌, take}
use Rattle.rt_values.proofs.list.copy_slice.Given as goal

abbrev pub invariant-loop-item : goal.invariant-loop-item
invariant-loop-item given state = state.copied.items ≡ take state.item-index state.items
