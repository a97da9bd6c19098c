-- No listeners are in order.
use Rattle.std.specs.Ordering.{nat_cmp}
use Rattle.std.specs.Cmp.Lexicographic.{slice_cmp}
use Rattle.rt_cells.proofs.Sorted.{none_in_order}
use Rattle.run_attributes.proofs.order.Listeners.new.Goals as goal

pub invariant_of-result : goal.invariant_of-result
invariant_of-result c = rw c.new.ensures.items (none_in_order (slice_cmp nat_cmp))
