-- The listeners so far were called one after another.
use Rattle.std.proofs.Common.{◌≡◌, []}
use Rattle.rt_scopes.specs.Counts.{Counts}
use Rattle.run_machine.specs.Machines.{machine_of, noted}
use Rattle.run_rounds.specs.Handled.{HeardSo}
use Rattle.run_rounds.proofs.Handling.{HeardFar}
use Rattle.run_rounds.proofs.hearing.hear_all.Given as goal

abbrev pub invariant-loop-listener : goal.invariant-loop-listener
invariant-loop-listener g l = record {
  far :
      (from : _) (kept : _)
      → HeardSo (g.A.App.meaning l.app) from (noted l.fn.machine) (machine_of kept [] 0 l.fn.machine)
      → Counts l.fn.calls kept.calls
      → HeardFar (g.A.App.meaning l.app) from l.machine l.calls;
  first : l.machine.first ≡ l.fn.machine.first;
  work : l.machine.work ≡ l.fn.machine.work;
}
