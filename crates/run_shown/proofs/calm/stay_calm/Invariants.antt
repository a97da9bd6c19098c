-- All children so far write nothing.
use Rattle.std.proofs.Common.{◌≡◌, drop}
use Rattle.run_shown.specs.Calm.{are_calm}
use Rattle.run_shown.proofs.calm.stay_calm.Given as goal

abbrev pub invariant-loop-pair : goal.invariant-loop-pair
invariant-loop-pair g l = are_calm l.unit (drop l.pair-index l.children) ≡ are_calm l.unit l.children
