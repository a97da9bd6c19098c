-- No attributes are in order.
use Rattle.rt_cells.proofs.Sorted.{none_in_order}
use Rattle.run_attributes.specs.Order.{key_order}
use Rattle.run_attributes.proofs.order.Attributes.new.Goals as goal

pub invariant_of-result : goal.invariant_of-result
invariant_of-result c = rw c.new.ensures.items (none_in_order key_order)
