use Rattle.std.proofs.Common.{◌≡◌, ◌++◌, map, drop, take}
use Rattle.run_places.specs.Places.{place_of}
use Rattle.run_named.specs.Named.{step_in, steps_from}
use Rattle.run_named.proofs.naming.are_steps.Given as goal

abbrev pub invariant-loop-step : goal.invariant-loop-step
invariant-loop-step l = map step_in (take l.told l.steps) ++ steps_from l.slot (place_of (drop l.step-index l.above)) ≡ steps_from 0 (place_of l.above)
