use Rattle.std.proofs.Common.{◌≡◌, [], drop}
use Rattle.run_places.specs.Places.{place_of}
use Rattle.run_named.specs.Named.{path_from}
use Rattle.run_named.proofs.naming.path_of.Given as goal

abbrev pub invariant-loop-step : goal.invariant-loop-step
invariant-loop-step l = path_from l.path (place_of (drop l.step-index l.place)) ≡ path_from [] (place_of l.place)
