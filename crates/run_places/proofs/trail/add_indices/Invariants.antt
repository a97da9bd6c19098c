use Rattle.std.proofs.Common.{◌≡◌, ◌++◌, drop}
use Rattle.run_places.proofs.trail.add_indices.Given as goal

abbrev pub invariant-loop-index : goal.invariant-loop-index
invariant-loop-index l = l.path ++ drop l.index-index l.whole ≡ l.initial.path ++ l.whole
