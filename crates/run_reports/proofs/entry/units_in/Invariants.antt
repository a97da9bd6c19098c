-- What was counted, and what is left to count, are what the whole log has.
use Rattle.std.proofs.Common.{◌≡◌, ◌+◌, ◌≤◌, drop, map}
use Rattle.rt_model.specs.Told.{is_unit, count_entries}
use Rattle.run_reports.specs.Seen.{entry_of}
use Rattle.run_reports.proofs.entry.units_in.Given as goal

abbrev pub invariant-loop-entry : goal.invariant-loop-entry
invariant-loop-entry l =
    (l.units + count_entries is_unit (map entry_of (drop l.entry-index l.log)) ≡ count_entries is_unit (map entry_of l.log)) × (l.units ≤ l.entry-index)
