-- The whole comes to what the cells that are left come to after the values so far.
use Rattle.std.proofs.Common.{◌≡◌, drop}
use Rattle.run_records.specs.Records.{world_of}
use Rattle.author_calls.specs.Calls.{call_of}
use Rattle.author_programs.specs.Came.{came}
use Rattle.author_programs.specs.Cells.{all_read}
use Rattle.author_programs.specs.Sequence.{go_on}
use Rattle.author_bodies.proofs.Lists.{then_values}
use Rattle.author_bodies.proofs.rows.read_all.Given as goal

abbrev pub invariant-loop-cell : goal.invariant-loop-cell
invariant-loop-cell g l =
    (came (world_of l.fn.cx.world) (all_read l.cells) (call_of l.fn.cx)
    ≡ came (world_of l.fn.cx.world) (go_on (all_read (drop l.cell-index l.cells)) (then_values l.values)) (call_of l.cx))
    × (l.cx.world ≡ l.fn.cx.world)
