-- A scope or task that joins the others, with its place.
use Rattle.std.proofs.Common.{◌≡◌, ℕ, List, [], ◌∷◌, ◌++◌, ap, ◌∙◌}
use Rattle.rt_model.specs.OneLog.{types}
use Rattle.rt_model.specs.State as model
use Rattle.run_records.specs.Kept.{each, scope_of}
use Rattle.run_records.specs.declared.rest.Scope.{Scope}
use Rattle.run_owed.specs.Owing.{Owing}
use Rattle.run_state.specs.Mirror.{Unkept, scopes_of, state_of, task_of}
use Rattle.run_state.specs.declared.state.State.{State}
use Rattle.run_state.specs.declared.state.TaskRow.{TaskRow}
use Rattle.run_state.proofs.Each.{append-each}
use Rattle.run_state.proofs.Posts.{with_all}

module _ {P C Q V H T E L : Type 0} where
  pub tasks_pushed : (g : Unkept (types C Q V H T E L)) (d : State P C Q V H T E L) (o : Owing) (new : List (ℕ × TaskRow P C Q V H T E L)) (t v : ℕ) (row : TaskRow P C Q V H T E L)
      → o ≡ record d.owed { tasks = (d.owed).tasks ++ (t, v) ∷ [] } → new ≡ d.tasks ++ (t, row) ∷ []
      → record (with_all (state_of g d) o) { tasks = each task_of new } ≡ record (state_of g d) { tasks = (state_of g d).tasks ++ (t, task_of row) ∷ [] }
  tasks_pushed g d o new t v row entered pushed =
      (λ i. record (with_all (state_of g d) (entered i)) { tasks = each task_of (pushed i) })
      ∙ ap (λ (ts : List (ℕ × model.TaskRow (types C Q V H T E L))). let w : model.State (types C Q V H T E L) = record (state_of g d) { tasks = ts } in w) (append-each task_of d.tasks ((t, row) ∷ []))

  -- a scope joins the others under the next number
  pub scope_joined : (g : Unkept (types C Q V H T E L)) (d : State P C Q V H T E L) (o : Owing) (new : List (ℕ × Scope P C Q V H T E L)) (next h : ℕ) (scope : Scope P C Q V H T E L) (x : model.Scope (types C Q V H T E L))
      → o ≡ record d.owed { scopes = (d.owed).scopes ++ (d.next_scope, h) ∷ [] } → new ≡ (d.rows).table ++ (d.next_scope, scope) ∷ [] → scope_of scope ≡ x
      → record (with_all (state_of g d) o) { scopes = scopes_of new; next_scope = next }
      ≡ record (state_of g d) { scopes = (state_of g d).scopes ++ (d.next_scope, x) ∷ []; next_scope = next }
  scope_joined g d o new next h scope x entered pushed made =
      (λ i. record (with_all (state_of g d) (entered i)) { scopes = scopes_of (pushed i); next_scope = next })
      ∙ ap (λ (es : List (ℕ × model.Scope (types C Q V H T E L))). let w : model.State (types C Q V H T E L) = record (state_of g d) { scopes = es; next_scope = next } in w)
      (
      append-each scope_of (d.rows).table ((d.next_scope, scope) ∷ [])
      ∙ ap (λ (y : model.Scope (types C Q V H T E L)). scopes_of (d.rows).table ++ (d.next_scope, y) ∷ []) made
      )
