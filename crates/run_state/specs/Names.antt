-- What is posted and owed, and why a change ends early, as the model has it.
use Rattle.std.specs.Prelude.{ℕ, List, map, Option, Some, None, option_map}
use Rattle.rt_values.specs.declared.names.ScopeId.{ScopeId}
use Rattle.rt_model.specs.State as state
use Rattle.rt_model.specs.Next as next
use Rattle.run_records.specs.Records.{counter_of}
use Rattle.run_state.specs.declared.names.Posted.{Posted}
use Rattle.run_state.specs.declared.names.Posted.TheVariants as posts
use Rattle.run_state.specs.declared.names.TaskKind.{TaskKind}
use Rattle.run_state.specs.declared.names.TaskKind.TheVariants as kinds
use Rattle.run_state.specs.declared.names.Work.{Work}
use Rattle.run_state.specs.declared.names.Work.TheVariants as works
use Rattle.run_state.specs.declared.names.Cause.{Cause}
use Rattle.run_state.specs.declared.names.Cause.TheVariants as faults

-- scopes by their numbers
abbrev pub scope_numbers : List ScopeId → List ℕ
scope_numbers scopes = map (λ (scope : ScopeId). scope.0) scopes

-- a mark or a wake
abbrev pub posted_of : Posted → state.Posted
posted_of (posts.Mark s) = state.Mark s
posted_of (posts.Woken t) = state.Woken t

-- who may poll a task in a suspended render
abbrev pub task_kind_of : TaskKind → state.TaskKind
task_kind_of kinds.ClientOnly = state.ClientOnly
task_kind_of kinds.Isomorphic = state.Isomorphic
task_kind_of kinds.Suspended = state.SuspendedTask

-- what the scheduler takes
abbrev pub work_of : Work → next.Work
work_of (works.RerunScope s) = next.RerunScope s
work_of (works.PollTask t) = next.PollTask t
work_of (works.RunEffects s) = next.RunEffects s

-- why a run ended early
abbrev pub fault_of : Cause → state.Fault
fault_of (faults.IdsExhausted what) = state.IdsExhausted (counter_of what)
fault_of (faults.HookChanged scope index kept asked) = state.HookChanged scope index kept asked
fault_of (faults.NoSuchTask scope task) = state.NoSuchTask scope task
fault_of (faults.BadNode scope) = state.BadNode scope
