-- Lines were answered, and what was put is their text.
use Rattle.std.proofs.Common.{◌≡◌, ◌≤◌}
use Rattle.show_lines.specs.Held.{unread}
use Rattle.show_stream.proofs.Reading.{Goes}
use Rattle.show_stream.specs.Statuses.{IsReading}
use Rattle.show_stream.specs.UnderWay.{IsUnderWay}
use Rattle.show_streams.specs.Reads.{preceded}
use Rattle.show_streams.specs.Writes.{grown}
use Rattle.show_stream.proofs.streamed.go_on.Given as goal

abbrev pub invariant-loop : goal.invariant-loop
invariant-loop g l = record {
  goes : (start : _) (at : _) (first : _) (lines : _) (text : _) → IsReading first lines start (preceded (unread l.fn.reader) (g.S.Source.left l.fn.source))
      → IsUnderWay g.T.Tells.form first lines text l.fn.streaming → g.O.Out.puts l.fn.out ≡ grown at text
      → Goes g.T.Tells.form start at first (preceded (unread l.reader) (g.S.Source.left l.source)) (g.O.Out.puts l.out) l.streaming;
  read : g.S.Source.faults l.fn.source ≤ g.S.Source.faults l.source;
  written : g.O.Out.faults l.fn.out ≤ g.O.Out.faults l.out;
}
