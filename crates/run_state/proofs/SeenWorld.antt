-- The world of a call is that of the model's state.
use Rattle.std.proofs.Common.{◌≡◌, ℕ, Bool, true, false, List, [], ◌∷◌, map, refl, ap, sym, ◌∙◌}
use Rattle.std.specs.Prelude.{Option, Some, None, option_map, option_and_then, if◌then◌else◌}
use Rattle.rt_values.specs.declared.names.ScopeId.{ScopeId}
use Rattle.rt_values.specs.declared.names.Task.{Task}
use Rattle.rt_cells.specs.declared.numbered.Held.{Held}
use Rattle.rt_cells.specs.Held.{value_at}
use Rattle.rt_model.specs.Lists.{at}
use Rattle.rt_model.specs.OneLog.{types}
use Rattle.rt_model.specs.Tree.{is_error_boundary, CapturedError}
use Rattle.rt_model.specs.World as model
use Rattle.rt_model.specs.State as state
use Rattle.tree_mirror.specs.Mirror.{error_of}
use Rattle.tree_mirror.specs.Sealed.{component_of}
use Rattle.run_records.specs.World.{CallWorld, rows_in, boundaries_in, provided}
use Rattle.run_records.specs.Records as calls
use Rattle.run_records.specs.Records.{hook_of}
use Rattle.run_records.specs.Kept.{scope_of, each}
use Rattle.run_records.specs.declared.rows.ScopeRow.{ScopeRow}
use Rattle.run_records.specs.declared.rest.Scope.{Scope}
use Rattle.run_records.proofs.KindPlaces.{provided-is}
use Rattle.run_records.proofs.RowsAt.{row-found}
use Rattle.run_state.specs.Mirror.{Unkept, cell_of, scopes_of, state_of}
use Rattle.run_state.specs.declared.state.State.{State}
use Rattle.run_state.proofs.Each.{at-each}
use Rattle.run_state.proofs.CellsKept.{held-found}

module _ (C Q V H T E L : Type 0) where
  cell-of : (o : Option (Held V)) → ◌≡◌ {A = Option V} (option_map (λ h. h.value) o) (elim (option_map (cell_of {C = C} {Q = Q} {V = V} {H = H} {T = T} {E = E} {L = L}) o) [ None ↦ None | Some c ↦ Some c.value ])
  cell-of None = refl
  cell-of (Some h) = refl

module _ {P C Q V H T E L : Type 0} where
  parents-is : (scopes : List (ℕ × Scope P C Q V H T E L)) → calls.parents_of (rows_in scopes) ≡ state.parents_of (scopes_of scopes)
  parents-is [] = refl
  parents-is (e ∷ scopes) = ap (λ ps. (e.0, calls.number_of ((e.1).row).parent) ∷ ps) (parents-is scopes)

  boundaries-is : (scopes : List (ℕ × Scope P C Q V H T E L)) → boundaries_in scopes ≡ state.boundaries_of (scopes_of scopes)
  boundaries-is [] = refl
  boundaries-is (e ∷ scopes) =
      ap (λ (bs : List ℕ). if is_error_boundary (component_of ((e.1).rest).component) then e.0 ∷ bs else bs) (boundaries-is scopes)

  renders-of : (o : Option (Scope P C Q V H T E L)) → calls.renders_of (option_map (λ x. x.row) o) ≡ elim (option_map scope_of o) [ None ↦ 0 | Some x ↦ x.renders ]
  renders-of None = refl
  renders-of (Some x) = refl

  hooks-of : (o : Option (Scope P C Q V H T E L)) → calls.hooks_of (option_map (λ x. x.row) o) ≡ elim (option_map scope_of o) [ None ↦ [] | Some x ↦ x.hooks ]
  hooks-of None = refl
  hooks-of (Some x) = refl

  error-of : (o : Option (Scope P C Q V H T E L)) → ◌≡◌ {A = Option CapturedError} (option_map error_of (option_and_then (λ (row : ScopeRow P C Q V H T E L). row.error) (option_map (λ x. x.row) o))) (elim (option_map scope_of o) [ None ↦ None | Some x ↦ x.error ])
  error-of None = refl
  error-of (Some x) = refl

  context-of : (k : ℕ) (o : Option (Scope P C Q V H T E L)) → ◌≡◌ {A = Option V} (option_and_then (λ (row : ScopeRow P C Q V H T E L). provided row.contexts k) (option_map (λ x. x.row) o)) (elim (option_map scope_of o) [ None ↦ None | Some x ↦ at x.contexts k ])
  context-of k None = refl
  context-of k (Some x) = provided-is (x.row).contexts k

  abbrev found_in : (d : State P C Q V H T E L) (n : ℕ) → option_map scope_of (at (d.rows).table n) ≡ at (scopes_of (d.rows).table) n
  found_in d n = sym (at-each scope_of (d.rows).table n)

  renders-is : (d : State P C Q V H T E L) (g : Unkept (types C Q V H T E L)) (n : ℕ) → calls.renders_of (at (rows_in (d.rows).table) n) ≡ state.renders_of (state_of g d) n
  renders-is d g n =
      ap calls.renders_of (row-found (d.rows).table n) ∙ renders-of (at (d.rows).table n)
      ∙ ap (λ (o : Option (state.Scope (types C Q V H T E L))). elim o as (λ _. ℕ) [ None ↦ 0 | Some x ↦ x.renders ]) (found_in d n)

  hooks-is : (d : State P C Q V H T E L) (g : Unkept (types C Q V H T E L)) (n : ℕ) → calls.hooks_of (at (rows_in (d.rows).table) n) ≡ state.hooks_of (state_of g d) n
  hooks-is d g n =
      ap calls.hooks_of (row-found (d.rows).table n) ∙ hooks-of (at (d.rows).table n)
      ∙ ap (λ (o : Option (state.Scope (types C Q V H T E L))). elim o as (λ _. List (model.Hook (types C Q V H T E L))) [ None ↦ [] | Some x ↦ x.hooks ]) (found_in d n)

  error-is : (d : State P C Q V H T E L) (g : Unkept (types C Q V H T E L)) (n : ℕ)
      → option_map error_of (option_and_then (λ (row : ScopeRow P C Q V H T E L). row.error) (at (rows_in (d.rows).table) n)) ≡ (state.values_of (state_of g d)).error n
  error-is d g n =
      ap (λ o. option_map error_of (option_and_then (λ (row : ScopeRow P C Q V H T E L). row.error) o)) (row-found (d.rows).table n) ∙ error-of (at (d.rows).table n)
      ∙ ap (λ (o : Option (state.Scope (types C Q V H T E L))). elim o as (λ _. Option CapturedError) [ None ↦ None | Some x ↦ x.error ]) (found_in d n)

  context-is : (d : State P C Q V H T E L) (g : Unkept (types C Q V H T E L)) (k n : ℕ)
      → option_and_then (λ (row : ScopeRow P C Q V H T E L). provided row.contexts k) (at (rows_in (d.rows).table) n) ≡ (state.values_of (state_of g d)).context k n
  context-is d g k n =
      ap (λ o. option_and_then (λ (row : ScopeRow P C Q V H T E L). provided row.contexts k) o) (row-found (d.rows).table n) ∙ context-of k (at (d.rows).table n)
      ∙ ap (λ (o : Option (state.Scope (types C Q V H T E L))). elim o as (λ _. Option V) [ None ↦ None | Some x ↦ at x.contexts k ]) (found_in d n)

  cell-is : (d : State P C Q V H T E L) (g : Unkept (types C Q V H T E L)) (n : ℕ) → value_at n (d.cells).cells ≡ (state.values_of (state_of g d)).cell n
  cell-is d g n =
      ap (option_map (λ (h : Held V). h.value)) (held-found (d.cells).cells n) ∙ cell-of C Q V H T E L (at (d.cells).cells n)
      ∙ ap (λ (o : Option (state.CellRow (types C Q V H T E L))). elim o as (λ _. Option V) [ None ↦ None | Some c ↦ Some c.value ]) (sym (at-each cell_of (d.cells).cells n))

  -- what a call in a scope sees
  pub world-is : (d : State P C Q V H T E L) (g : Unkept (types C Q V H T E L)) (s : ScopeId) (task : Option Task) (rendering : Bool)
      → calls.world_of (record { scope = s; rows = rows_in (d.rows).table; boundaries = boundaries_in (d.rows).table; cells = (d.cells).cells; next = d.next; task = task; rendering = rendering })
      ≡ state.world_of (state_of g d) s.0 (option_map (λ t. t.0) task) rendering
  world-is d g s task rendering =
      λ i. record {
        given = record {
          scope = s.0;
          parents = parents-is (d.rows).table i;
          boundaries = boundaries-is (d.rows).table i;
          renders = renders-is d g s.0 i;
          hooks = hooks-is d g s.0 i;
          next = calls.firsts_of d.next;
          task = option_map (λ t. t.0) task;
          rendering = rendering;
        };
        values = record {
          cell = λ n. cell-is d g n i;
          error = λ n. error-is d g n i;
          context = λ k n. context-is d g k n i;
        };
      }
