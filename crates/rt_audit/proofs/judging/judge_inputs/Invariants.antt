-- The lists so far were good.
use Rattle.std.proofs.Common.{◌≡◌, ℕ, suc, length, map}
use Rattle.std.specs.Vec.Iter.{into_iter_items, into_iter_len}
use Rattle.run_reports.specs.Seen.{entry_of, input_of, limits_of}
use Rattle.rt_audit.specs.Finding.{boundless}
use Rattle.rt_audit.specs.Judging.{Reaches}
use Rattle.rt_audit.proofs.judging.judge_inputs.Given as goal

abbrev pub invariant-loop-input : goal.invariant-loop-input
invariant-loop-input g l = record {
  reaches :
      (props : _) (all : _)
      → Reaches (g.A.App.meaning l.app) (limits_of boundless) props all (map (map entry_of) l.log) 0 (map input_of l.fn.inputs) l.fn.machine
      → (taken : ℕ)
      × (l.report ≡ suc taken)
      × Reaches (g.A.App.meaning l.app) (limits_of boundless) props all (map (map entry_of) l.log) taken (map input_of (into_iter_items l.input-iterator)) l.machine;
  count : into_iter_len l.input-iterator ≡ length (into_iter_items l.input-iterator);
}
