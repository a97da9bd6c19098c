-- What is copied so far, and what is left, are the whole.
use Rattle.std.proofs.Common.{◌≡◌, ◌++◌, drop}
use Rattle.run_shown.proofs.climb.copied.Given as goal

abbrev pub invariant-loop-attribute : goal.invariant-loop-attribute
invariant-loop-attribute g l = l.copy ++ drop l.attribute-index l.attributes ≡ l.attributes
