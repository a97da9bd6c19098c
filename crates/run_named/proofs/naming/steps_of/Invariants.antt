use Rattle.std.proofs.Common.{◌≡◌, ◌++◌, map, drop}
use Rattle.run_places.specs.Places.{place_of}
use Rattle.run_named.specs.Named.{step_in, steps_from}
use Rattle.run_named.proofs.naming.steps_of.Given as goal

abbrev pub invariant-loop-step : goal.invariant-loop-step
invariant-loop-step l = map step_in l.steps ++ steps_from l.slot (place_of (drop l.step-index l.place)) ≡ steps_from 0 (place_of l.place)
