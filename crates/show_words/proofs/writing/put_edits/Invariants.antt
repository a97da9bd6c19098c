-- The lines so far have been put.
use Rattle.std.proofs.Common.{take, Ok}
use Rattle.show_words.specs.Texts.{lines_of}
use Rattle.show_streams.specs.Writes.{Writes}
use Rattle.show_words.proofs.writing.put_edits.Given as goal

abbrev pub invariant-loop-edit : goal.invariant-loop-edit
invariant-loop-edit g l = Writes (take l.edit-index (lines_of l.edits)) (g.O.Out.puts l.fn.out) (g.O.Out.puts l.out) (g.O.Out.faults l.fn.out) (g.O.Out.faults l.out) (Ok tt)
