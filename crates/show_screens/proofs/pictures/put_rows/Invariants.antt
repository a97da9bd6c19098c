-- The lines so far have been put.
use Rattle.std.proofs.Common.{map, take, Ok}
use Rattle.show_streams.specs.Writes.{Writes}
use Rattle.rt_text.specs.Printed.{row_line}
use Rattle.show_screens.proofs.pictures.put_rows.Given as goal

abbrev pub invariant-loop-row : goal.invariant-loop-row
invariant-loop-row g l = Writes (take l.row-index (map row_line l.rows)) (g.O.Out.puts l.fn.out) (g.O.Out.puts l.out) (g.O.Out.faults l.fn.out) (g.O.Out.faults l.out) (Ok tt)
