-- What the line has, with the entries that are still to come, is what it is to have.
use Rattle.std.proofs.Common.{◌≡◌, ◌++◌, drop, map}
use Rattle.rt_language.specs.Lines.{spaced, entry_text}
use Rattle.run_reports.specs.Seen.{entry_of}
use Rattle.show_print.proofs.reports.put_log.Given as goal

abbrev pub invariant-loop-entry : goal.invariant-loop-entry
invariant-loop-entry l =
    l.line ++ spaced (map entry_text (map entry_of (drop l.entry-index l.log))) ≡ l.fn.line ++ spaced (map entry_text (map entry_of l.log))
