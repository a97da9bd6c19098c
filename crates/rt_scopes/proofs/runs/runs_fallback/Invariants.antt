-- No step so far calls the fallback.
use Rattle.std.proofs.Common.{◌≡◌, drop, map}
use Rattle.rt_model.specs.Run.{runs_fallback}
use Rattle.run_work.specs.Items.{row_step_of}
use Rattle.rt_scopes.proofs.runs.runs_fallback.Given as goal

abbrev pub invariant-loop-step : goal.invariant-loop-step
invariant-loop-step l = runs_fallback (map row_step_of (drop l.step-index l.steps)) ≡ runs_fallback (map row_step_of l.steps)
