-- Where a task stands between two polls, as the definitions have it.
use Rattle.rt_language.specs.Expressions as language
use Rattle.author_deriving.specs.Task.{task_of}
use Rattle.lang_script.specs.declared.state.TaskKind.{TaskKind}
use Rattle.lang_script.specs.declared.state.TaskKind.TheVariants as kinds

-- one that runs its steps, or one that keeps a cell
abbrev pub state_of : TaskKind → language.TaskState
state_of (kinds.Stepping standing) = language.Stepping standing
state_of (kinds.Minding task) = language.Minding (task_of task)
