-- The whole comes to what the writes that are left come to.
use Rattle.std.proofs.Common.{◌≡◌, drop}
use Rattle.run_records.specs.Records.{world_of}
use Rattle.author_calls.specs.Calls.{call_of}
use Rattle.author_programs.specs.Came.{came}
use Rattle.author_programs.specs.Cells.{all_written}
use Rattle.author_bodies.proofs.rows.write_all.Given as goal

abbrev pub invariant-loop-write : goal.invariant-loop-write
invariant-loop-write g l =
    (came (world_of l.fn.cx.world) (all_written l.writes) (call_of l.fn.cx)
    ≡ came (world_of l.fn.cx.world) (all_written (drop l.write-index l.writes)) (call_of l.cx))
    × (l.cx.world ≡ l.fn.cx.world)
