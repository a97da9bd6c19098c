-- After what was passed the children that lead to the number stand under one index where they do in the whole.
use Rattle.std.proofs.Common.{◌≡◌, drop}
use Rattle.rt_model.specs.Lists.{has}
use Rattle.run_shown.specs.Leading.{lone_after, lone_where}
use Rattle.run_shown.proofs.sought.lone_on.Given as goal

abbrev pub invariant-loop-pair : goal.invariant-loop-pair
invariant-loop-pair l = lone_after l.found (λ t. has l.way t) (drop l.pair-index l.pairs) ≡ lone_where (λ t. has l.way t) l.pairs
