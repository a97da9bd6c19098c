-- A suspended task remains exactly where one of those left is one.
use Rattle.std.proofs.Common.{◌≡◌, drop}
use Rattle.rt_model.specs.Rendering.{suspended_remains}
use Rattle.run_records.specs.Kept.{each}
use Rattle.run_state.specs.Mirror.{task_of}
use Rattle.run_answers.proofs.remaining.remains_in.Given as goal

abbrev pub invariant-loop-entry : goal.invariant-loop-entry
invariant-loop-entry g l = suspended_remains (each task_of (drop l.entry-index l.tasks)) ≡ suspended_remains (each task_of l.tasks)
