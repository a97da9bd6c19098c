-- The entries so far are those of the list.
use Rattle.std.proofs.Common.{take, map}
use Rattle.run_reports.specs.Seen.{entry_of}
use Rattle.rt_audit.specs.Fronts.{IsFront}
use Rattle.rt_audit.proofs.comparing.parted.Given as goal

abbrev pub invariant-loop-at : goal.invariant-loop-at
invariant-loop-at l =
    IsFront (take l.from (map entry_of l.noted)) (map entry_of l.list) → IsFront (take l.at (map entry_of l.noted)) (map entry_of l.list)
