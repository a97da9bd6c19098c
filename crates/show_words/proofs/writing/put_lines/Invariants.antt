-- The lines so far have been put.
use Rattle.std.proofs.Common.{take, Ok}
use Rattle.show_streams.specs.Writes.{Writes}
use Rattle.show_words.proofs.writing.put_lines.Given as goal

abbrev pub invariant-loop-line : goal.invariant-loop-line
invariant-loop-line g l = Writes (take l.line-index l.lines) (g.O.Out.puts l.fn.out) (g.O.Out.puts l.out) (g.O.Out.faults l.fn.out) (g.O.Out.faults l.out) (Ok tt)
