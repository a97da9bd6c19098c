-- No members are in order.
use Rattle.std.proofs.Common.{false}
use Rattle.rt_cells.specs.Orders.{context_cmp}
use Rattle.rt_cells.proofs.Sorted.{none_in_order}
use Rattle.rt_cells.proofs.subscribers.Subscribers.new_noop.Goals as goal

pub invariant_of-result : goal.invariant_of-result
invariant_of-result c = rw c.new.ensures.items (none_in_order context_cmp)

pub returns : goal.returns
returns c = record { empty = λ i. record { members = c.new.ensures.items i; listens = false } }
