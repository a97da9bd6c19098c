use Rattle.std.proofs.Common.{◌≡◌, drop}
use Rattle.std.specs.Prelude.{nat_eq}
use Rattle.std.specs.List.{list_any}
use Rattle.run_records.proofs.holders.is_among.Given as goal

abbrev pub invariant-loop-future : goal.invariant-loop-future
invariant-loop-future l = list_any (λ future. nat_eq (future.task).0 l.task) l.futures ≡ list_any (λ future. nat_eq (future.task).0 l.task) (drop l.future-index l.futures)
