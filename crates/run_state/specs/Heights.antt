-- The heights of scopes and the scopes of tasks, as they are entered.
use Rattle.std.specs.Prelude.{ℕ, List}
use Rattle.run_records.specs.declared.rest.Scope.{Scope}
use Rattle.run_owed.specs.Lists.{values_of}
use Rattle.run_state.specs.declared.state.TaskRow.{TaskRow}

module _ {P C Q V H T E L : Type 0} where
  -- how many scopes are above a scope
  abbrev pub height_in : Scope P C Q V H T E L → ℕ
  height_in x = (x.rest).height

  -- scopes with their heights
  abbrev pub heights_of : List (ℕ × Scope P C Q V H T E L) → List (ℕ × ℕ)
  heights_of rows = values_of height_in rows

  -- the scope that a task ends with
  abbrev pub task_scope : TaskRow P C Q V H T E L → ℕ
  task_scope x = x.scope

  -- tasks with their scopes
  abbrev pub task_scopes : List (ℕ × TaskRow P C Q V H T E L) → List (ℕ × ℕ)
  task_scopes rows = values_of task_scope rows
