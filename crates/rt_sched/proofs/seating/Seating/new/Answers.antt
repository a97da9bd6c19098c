use Rattle.std.proofs.Common.{refl}
use Rattle.rt_sched.proofs.seating.Seating.new.Goals as goal

pub invariant_of-result : goal.invariant_of-result
invariant_of-result c = rw c.new.ensures.items tt

pub returns : goal.returns
returns c = record { empty = rw (c.new.ensures.items, c.new-2.ensures.empty) refl }
