-- The units so far are units of the poll.
use Rattle.std.specs.Prelude.{false}
use Rattle.run_reports.specs.Seen.{limits_of}
use Rattle.law_behavior.specs.Doms.{LedTo}
use Rattle.run_rounds.specs.Rounds.{RestsAt}
use Rattle.run_rounds.specs.Suspended.{PollingOn}
use Rattle.run_rounds.proofs.suspended.poll_suspended.Given as goal

abbrev pub invariant-loop-unit : goal.invariant-loop-unit
invariant-loop-unit g l =
    (props : _) (w : _)
    → RestsAt w l.fn.machine l.fn.calls
    → LedTo (g.A.App.meaning l.app) (limits_of l.fn.limits) props false w
    → PollingOn (g.A.App.meaning l.app) (limits_of l.fn.limits) props w l.units l.machine l.calls
