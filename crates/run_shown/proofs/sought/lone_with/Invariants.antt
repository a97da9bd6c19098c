-- After what was passed the number stands under one index where it does in the whole.
use Rattle.std.proofs.Common.{◌≡◌, drop, nat_eq}
use Rattle.run_shown.specs.Leading.{lone_after, lone_where}
use Rattle.run_shown.proofs.sought.lone_with.Given as goal

abbrev pub invariant-loop-pair : goal.invariant-loop-pair
invariant-loop-pair l = lone_after l.found (λ m. nat_eq m l.number) (drop l.pair-index l.pairs) ≡ lone_where (λ m. nat_eq m l.number) l.pairs
