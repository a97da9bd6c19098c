use Rattle.run_places.proofs.Agreed.{agrees_none}
use Rattle.run_places.proofs.pairs.Pairs.with_room.Goals as goal

pub invariant_of-result : goal.invariant_of-result
invariant_of-result c = rw (c.in_ok-with_capacity.ensures.items, c.in_ok-with_capacity-2.ensures.items) agrees_none
