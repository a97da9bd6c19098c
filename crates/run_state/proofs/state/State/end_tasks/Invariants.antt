use Rattle.std.proofs.Common.{◌≡◌, length}
use Rattle.rt_model.specs.Removal.{end_all, tasks_in}
use Rattle.run_state.specs.Mirror.{state_of}
use Rattle.run_state.proofs.state.State.end_tasks.Given as goal

-- the tasks that are left end as all would have
abbrev pub invariant-loop-task : goal.invariant-loop-task
invariant-loop-task g l = (kept : _) →
    end_all (state_of kept l.self) (tasks_in l.scope (state_of kept l.self).tasks) ≡ end_all (state_of kept l.fn.self) (tasks_in l.scope (state_of kept l.fn.self).tasks)

abbrev pub decreases-loop-task : goal.decreases-loop-task
decreases-loop-task g l = length l.self.tasks
