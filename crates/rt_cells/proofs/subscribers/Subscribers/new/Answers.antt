-- No members are in order.
use Rattle.rt_cells.specs.Orders.{context_cmp}
use Rattle.rt_cells.proofs.Sorted.{none_in_order}
use Rattle.rt_cells.proofs.subscribers.Subscribers.new.Goals as goal

pub invariant_of-result : goal.invariant_of-result
invariant_of-result c = rw c.new.ensures.items (none_in_order context_cmp)
