-- Rows that don't show what was done.
use Rattle.std.specs.Prelude.{true, [], ◌∷◌, Some, None, ◌≡◌}
use Rattle.rt_model.specs.Tree.{Types}
use Rattle.rt_model.specs.World.{Cell, TaskTarget, Reset, Write, ReadInto, Application}
use Rattle.rt_model.specs.State.{Isomorphic, State, values_of}
use Rattle.rt_model.specs.Commands.{commands}

-- a state of a cell with a value, a context that read it and wakes a task, and that task
abbrev pub one_context : {K : Types} → K.Value → K.TaskState → State K
one_context value task =
    record {
      scopes = [];
      last_calls = [];
      cells = (1, record { owner = 0; value = value }) ∷ [];
      contexts = (1, record { scope = 0; target = TaskTarget 1; sources = Cell 1 ∷ [] }) ∷ [];
      tasks = (1, record { scope = 0; parent = None; state = task; active = true; kind = Isomorphic }) ∷ [];
      posted = [];
      seen = [];
      queued = [];
      resolved = [];
      skipped = [];
      next_scope = 1;
      next = record { tasks = 2; cells = 2; contexts = 2; elements = 1; errors = 1 };
      calls = 0;
    }

-- a reset, a write and the same read again leave the context's row as it was, the cell with another value, and wake nobody
abbrev pub RowsHideWrites : Types → Type 0
RowsHideWrites K =
    (app : Application K) (before after : K.Value) (task : K.TaskState)
    → let w = one_context before task in
    let v = commands app w 0 None (Reset 1 ∷ Write 1 after ∷ ReadInto 1 (Cell 1) ∷ []) in
    (v.contexts ≡ w.contexts) × (v.posted ≡ w.posted) × (v.queued ≡ w.queued) × ((values_of v).cell 1 ≡ Some after)
