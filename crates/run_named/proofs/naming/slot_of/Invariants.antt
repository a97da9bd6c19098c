use Rattle.std.proofs.Common.{◌≡◌, drop}
use Rattle.run_places.specs.Places.{place_of}
use Rattle.run_named.specs.Named.{slot_from}
use Rattle.run_named.proofs.naming.slot_of.Given as goal

abbrev pub invariant-loop-step : goal.invariant-loop-step
invariant-loop-step l = slot_from l.slot (place_of (drop l.step-index l.place)) ≡ slot_from 0 (place_of l.place)
