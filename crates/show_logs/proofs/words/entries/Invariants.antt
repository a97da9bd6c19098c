-- What was read so far stands before the rest.
use Rattle.std.proofs.Common.{map}
use Rattle.run_reports.specs.Seen.{entry_of}
use Rattle.show_logs.specs.Written.{WritesEntry}
use Rattle.show_logs.proofs.Items.{SoFar}
use Rattle.show_logs.proofs.words.entries.Given as goal

abbrev pub invariant-loop-value : goal.invariant-loop-value
invariant-loop-value l = SoFar WritesEntry l.values l.value-index (map entry_of l.read.items)
