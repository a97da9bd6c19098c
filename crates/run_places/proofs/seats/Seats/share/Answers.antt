use Rattle.run_places.proofs.seats.Seats.share.Goals as goal

pub invariant_of-result : goal.invariant_of-result
invariant_of-result c = rw (c.in_ok-share.ensures.items, c.in_ok-share-2.ensures.items) c.self.invariant
