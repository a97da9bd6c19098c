-- What was counted, and what is left to count, are what the whole log has.
use Rattle.std.proofs.Common.{◌≡◌, ◌+◌, ◌≤◌, drop, map}
use Rattle.rt_model.specs.Told.{is_body, count_entries}
use Rattle.run_reports.specs.Seen.{entry_of}
use Rattle.run_reports.proofs.entry.bodies_in.Given as goal

abbrev pub invariant-loop-entry : goal.invariant-loop-entry
invariant-loop-entry l =
    (l.bodies + count_entries is_body (map entry_of (drop l.entry-index l.log)) ≡ count_entries is_body (map entry_of l.log)) × (l.bodies ≤ l.entry-index)
