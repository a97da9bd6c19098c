-- The state of code as that of the model.
use Rattle.std.specs.Prelude.{◌≡◌, ℕ, ◌+◌, List, [], ◌∷◌, map, Option, Some, None}
use Rattle.rt_cells.specs.declared.numbered.Held.{Held}
use Rattle.rt_cells.specs.declared.sources.Target.{Target}
use Rattle.rt_model.specs.OneLog.{types}
use Rattle.rt_model.specs.Tree as tree
use Rattle.rt_model.specs.Lists.{at, put, without, or_else}
use Rattle.rt_model.specs.State as state
use Rattle.run_records.specs.Records.{source_of, target_of, firsts_of}
use Rattle.run_records.specs.Kept.{each, scope_of}
use Rattle.run_records.specs.declared.rest.Scope.{Scope}
use Rattle.run_state.specs.Names.{scope_numbers, task_kind_of}
use Rattle.run_state.specs.Sources.{read_into}
use Rattle.run_state.specs.declared.read_order.Reading.{Reading}
use Rattle.run_state.specs.declared.state.TaskRow.{TaskRow}
use Rattle.run_state.specs.declared.state.State.{State}

-- what the model's state has and code doesn't keep here: the last calls, and how often the application was called
pub record Unkept (K : tree.Types) : Type 0 where
  pub last_calls : List (ℕ × state.LastCall K)
  pub calls : ℕ

module _ {K : tree.Types} where
  -- the last call of a scope isn't kept any more
  abbrev pub forgets : Unkept K → ℕ → Unkept K
  forgets g s = record g { last_calls = without g.last_calls s }

  -- the last call of a scope is another one
  abbrev pub recalls : Unkept K → ℕ → state.LastCall K → Unkept K
  recalls g s call = record g { last_calls = put g.last_calls s call }

  -- the application is called once more
  abbrev pub counts : Unkept K → Unkept K
  counts g = record g { calls = g.calls + 1 }

  -- nothing was called yet
  abbrev pub at_first : Unkept K
  at_first = record { last_calls = []; calls = 0 }

module _ {C Q V H T E L : Type 0} where
  -- a cell
  abbrev pub cell_of : Held V → state.CellRow (types C Q V H T E L)
  cell_of c = record { owner = (c.owner).0; value = c.value }

  -- a reactive context, with what was read into it
  abbrev pub context_of : List Reading → ℕ → Held Target → state.ContextRow (types C Q V H T E L)
  context_of order n x = record { scope = (x.owner).0; target = target_of x.value; sources = map source_of (read_into order n) }

  -- the reactive contexts that the cells keep
  abbrev pub contexts_of : List Reading → List (ℕ × Held Target) → List (ℕ × state.ContextRow (types C Q V H T E L))
  contexts_of order [] = []
  contexts_of order (e ∷ es) = (e.0, context_of order e.0 e.1) ∷ contexts_of order es

module _ {P C Q V H T E L : Type 0} where
  -- a task; while it is polled, its state is the one that it is polled with
  abbrev pub task_of : TaskRow P C Q V H T E L → state.TaskRow (types C Q V H T E L)
  task_of x = record {
    scope = x.scope;
    parent = x.parent;
    state = or_else (x.was).value x.state;
    active = x.active;
    kind = task_kind_of x.kind;
  }

  -- the state that a task's row holds, unless it was taken out
  abbrev pub state_held : Option (TaskRow P C Q V H T E L) → Option T
  state_held None = None
  state_held (Some x) = x.state

  -- the scopes
  abbrev pub scopes_of : List (ℕ × Scope P C Q V H T E L) → List (ℕ × state.Scope (types C Q V H T E L))
  scopes_of scopes = each scope_of scopes

  -- the state
  abbrev pub state_of : Unkept (types C Q V H T E L) → State P C Q V H T E L → state.State (types C Q V H T E L)
  state_of g d =
      record {
        scopes = scopes_of (d.rows).table;
        last_calls = g.last_calls;
        cells = each cell_of (d.cells).cells;
        contexts = contexts_of d.read_order (d.cells).contexts;
        tasks = each task_of d.tasks;
        posted = (d.owed).posted;
        seen = (d.owed).seen;
        queued = (d.owed).queued;
        resolved = d.resolved;
        skipped = scope_numbers d.skipped;
        next_scope = d.next_scope;
        next = firsts_of d.next;
        calls = g.calls;
      }

module _ (P C Q V H T E L : Type 0) where
  -- a change of all that is kept of a scope, and what it is in the model
  pub record ScopeChange : Type 0 where
    pub code : Scope P C Q V H T E L → Scope P C Q V H T E L
    pub model : state.Scope (types C Q V H T E L) → state.Scope (types C Q V H T E L)
    pub same : (x : Scope P C Q V H T E L) → scope_of (code x) ≡ model (scope_of x)

  -- a change of what is kept of a task, and what it is in the model
  pub record TaskChange : Type 0 where
    pub code : TaskRow P C Q V H T E L → TaskRow P C Q V H T E L
    pub model : state.TaskRow (types C Q V H T E L) → state.TaskRow (types C Q V H T E L)
    pub same : (x : TaskRow P C Q V H T E L) → task_of (code x) ≡ model (task_of x)

module _ (C Q V H T E L : Type 0) where
  -- what a change of all that is kept of a scope is in the model
  abbrev pub ScopeRevision : Type 0
  ScopeRevision = state.Scope (types C Q V H T E L) → state.Scope (types C Q V H T E L)

module _ {K : tree.Types} where
  -- a task that was found is changed
  abbrev pub changed_task : state.State K → ℕ → (state.TaskRow K → state.TaskRow K) → Option (state.TaskRow K) → state.State K
  changed_task w t f None = w
  changed_task w t f (Some x) = record w { tasks = put w.tasks t (f x) }

  -- a change of what is kept of a task, where it is live
  abbrev pub change_task : state.State K → ℕ → (state.TaskRow K → state.TaskRow K) → state.State K
  change_task w t f = changed_task w t f (at w.tasks t)
