-- What was read and not handed out stands before what is left, as it did.
use Rattle.std.proofs.Common.{◌≡◌, ◌≤◌}
use Rattle.show_lines.specs.Held.{unread}
use Rattle.show_streams.specs.Reads.{preceded}
use Rattle.show_lines.proofs.reader.LineReader.next_line.Given as goal

abbrev pub invariant-loop : goal.invariant-loop
invariant-loop g l = record {
  held : preceded (unread l.self) (g.S.Source.left l.source) ≡ preceded (unread l.fn.self) (g.S.Source.left l.fn.source);
  later : g.S.Source.faults l.fn.source ≤ g.S.Source.faults l.source;
}
