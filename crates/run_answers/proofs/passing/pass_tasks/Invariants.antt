-- What is left to pass over from here gives what all of it does.
use Rattle.std.proofs.Common.{◌≡◌, length}
use Rattle.run_state.specs.Mirror.{state_of}
use Rattle.run_answers.specs.Barred.{every_task_passed}
use Rattle.run_answers.proofs.passing.pass_tasks.Given as goal

abbrev pub invariant-loop-work : goal.invariant-loop-work
invariant-loop-work g l = (kept : _) → every_task_passed (state_of kept l.state) ≡ every_task_passed (state_of kept l.fn.state)

abbrev pub decreases-loop-work : goal.decreases-loop-work
decreases-loop-work g l = length ((l.state).owed).queued
