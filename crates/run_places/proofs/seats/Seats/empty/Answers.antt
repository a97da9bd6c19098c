use Rattle.run_places.proofs.Keyed.{indexes_none}
use Rattle.run_places.proofs.seats.Seats.empty.Goals as goal

pub invariant_of-result : goal.invariant_of-result
invariant_of-result c = rw (c.empty.ensures.empty, c.empty-2.ensures.empty) (λ many. indexes_none, λ i j x here there. cc here)
