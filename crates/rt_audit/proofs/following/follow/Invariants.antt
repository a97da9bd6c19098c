-- The entries that were noted are the first ones of the list.
use Rattle.std.proofs.Common.{map}
use Rattle.run_reports.specs.Seen.{entry_of, limits_of}
use Rattle.run_machine.specs.Stands.{without_count}
use Rattle.rt_audit.specs.Finding.{boundless, Keeps}
use Rattle.rt_audit.proofs.following.follow.Given as goal

abbrev pub invariant-loop-turn : goal.invariant-loop-turn
invariant-loop-turn g l =
    (r : _)
    → Keeps (g.A.App.meaning l.app) (limits_of boundless) (without_count r) (map entry_of l.list) 0 l.fn.machine
    → Keeps (g.A.App.meaning l.app) (limits_of boundless) (without_count r) (map entry_of l.list) l.seen l.machine
