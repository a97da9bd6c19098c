-- The lines so far have been put.
use Rattle.std.proofs.Common.{take, Ok}
use Rattle.show_words.specs.Texts.{report_lines_from}
use Rattle.show_streams.specs.Writes.{Writes}
use Rattle.show_words.proofs.writing.put_reports.Given as goal

abbrev pub invariant-loop-number : goal.invariant-loop-number
invariant-loop-number g l = Writes (take l.number (report_lines_from 0 l.reports)) (g.O.Out.puts l.fn.out) (g.O.Out.puts l.out) (g.O.Out.faults l.fn.out) (g.O.Out.faults l.out) (Ok tt)
