-- The copies so far, and the steps that are left, are what stood there and all steps.
use Rattle.std.proofs.Common.{◌≡◌, ◌++◌, drop}
use Rattle.run_places.proofs.trail.add_copies.Given as goal

abbrev pub invariant-loop-step : goal.invariant-loop-step
invariant-loop-step l = l.steps ++ drop l.step-index l.whole ≡ l.initial.steps ++ l.whole
