-- What a call of an application can look at, as the code holds it.
use Rattle.std.specs.Prelude.{ℕ, Bool, List, [], ◌∷◌, Option, Some, None, nat_eq, if◌then◌else◌}
use Rattle.rt_cells.specs.declared.numbered.Held.{Held}
use Rattle.rt_model.specs.Tree.{is_error_boundary}
use Rattle.tree_mirror.specs.Sealed.{component_of}
use Rattle.rt_values.specs.declared.names.ScopeId.{ScopeId}
use Rattle.rt_values.specs.declared.names.Task.{Task}
use Rattle.run_records.specs.declared.world.Firsts.{Firsts}
use Rattle.run_records.specs.declared.rows.ScopeRow.{ScopeRow}
use Rattle.run_records.specs.declared.rest.Scope.{Scope}
use Rattle.run_records.specs.declared.rows.Provided.{Provided}

module _ (P Component Props Value Handler TaskState Effect Payload : Type 0) where
  -- the caller's scope, the live scopes by number and which of them are error boundaries, the cells by number, the
  -- next numbers, the task that is polled, and whether a patch is running
  pub record CallWorld : Type 0 where
    pub scope : ScopeId
    pub rows : List (ℕ × ScopeRow P Component Props Value Handler TaskState Effect Payload)
    pub boundaries : List ℕ
    pub cells : List (ℕ × Held Value)
    pub next : Firsts
    pub task : Option Task
    pub rendering : Bool

module _ {P Component Props Value Handler TaskState Effect Payload : Type 0} where
  -- the rows alone, of all that is kept of scopes
  abbrev pub rows_in : List (ℕ × Scope P Component Props Value Handler TaskState Effect Payload)
      → List (ℕ × ScopeRow P Component Props Value Handler TaskState Effect Payload)
  rows_in [] = []
  rows_in (entry ∷ scopes) = (entry.0, (entry.1).row) ∷ rows_in scopes

  -- the error boundaries among the scopes
  abbrev pub boundaries_in : List (ℕ × Scope P Component Props Value Handler TaskState Effect Payload) → List ℕ
  boundaries_in [] = []
  boundaries_in (entry ∷ scopes) = if is_error_boundary (component_of (entry.1.rest).component) then entry.0 ∷ boundaries_in scopes
      else boundaries_in scopes

  -- what is provided of a kind in a list
  abbrev pub provided : List (Provided P Component Props Value Handler TaskState Effect Payload) → ℕ → Option Value
  provided [] kind = None
  provided (p ∷ ps) kind = if nat_eq p.kind kind then Some p.value else provided ps kind
