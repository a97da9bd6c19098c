use Rattle.run_places.proofs.seats.Seats.as_slice.Goals as goal

pub returns-clause-items : goal.returns-clause-items
returns-clause-items c = rw (← c.self.view_is) c.as_slice.ensures.items

pub returns-clause-apart : goal.returns-clause-apart
returns-clause-apart c = rw (← c.self.view_is) c.self.invariant.1
