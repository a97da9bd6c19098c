-- The items so far, and those of the steps that are left, are those of all steps.
use Rattle.std.proofs.Common.{◌≡◌, ◌++◌, drop, map}
use Rattle.rt_model.specs.Run.{row_items}
use Rattle.run_work.specs.Items.{row_step_of, work_of}
use Rattle.rt_scopes.proofs.runs.row_items.Given as goal

abbrev pub invariant-loop-step : goal.invariant-loop-step
invariant-loop-step g l = work_of l.items ++ row_items l.boundary (map row_step_of (drop l.step-index l.steps)) ≡ row_items l.boundary (map row_step_of l.steps)
