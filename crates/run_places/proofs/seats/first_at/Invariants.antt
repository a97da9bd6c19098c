use Rattle.std.proofs.Common.{◌≡◌, drop}
use Rattle.run_places.specs.Indexed.{first_of_seats}
use Rattle.run_places.specs.Places.{place_of}
use Rattle.run_places.proofs.seats.first_at.Given as goal

abbrev pub invariant-loop-entry : goal.invariant-loop-entry
invariant-loop-entry l = first_of_seats l.items (place_of l.place) (drop l.entry-index l.run) ≡ first_of_seats l.items (place_of l.place) l.run
