-- The world that a call is begun in.
use Rattle.rt_values.specs.declared.names.ScopeId.{ScopeId}
use Rattle.run_records.specs.World.{CallWorld, rows_in, boundaries_in}
use Rattle.run_records.specs.declared.world.World.{World}

module _ {P Component Props Value Handler TaskState Effect Payload : Type 0} where
  -- what a call in a scope can look at
  abbrev pub world_of : World P Component Props Value Handler TaskState Effect Payload → ScopeId
      → CallWorld P Component Props Value Handler TaskState Effect Payload
  world_of w s = record {
    scope = s;
    rows = rows_in w.rows.now.table;
    boundaries = boundaries_in w.rows.now.table;
    cells = w.cells.now.cells;
    next = w.next;
    task = w.task;
    rendering = w.rendering;
  }
