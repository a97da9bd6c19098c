use Rattle.std.proofs.Common.{◌≡◌, length, map}
use Rattle.std.specs.Prelude.{not, nat_eq}
use Rattle.rt_model.specs.Lists.{kept_by}
use Rattle.run_records.specs.Futures.{holder_of}
use Rattle.run_records.proofs.holders.drop_task.Given as goal

abbrev pub invariant-loop-index : goal.invariant-loop-index
invariant-loop-index l = kept_by (λ h. not (nat_eq h.0 l.task)) (map holder_of l.futures) ≡ kept_by (λ h. not (nat_eq h.0 l.task)) (map holder_of l.initial.futures)

abbrev pub decreases-loop-index : goal.decreases-loop-index
decreases-loop-index l = length l.futures
