use Rattle.std.proofs.Common.{◌≡◌, ◌++◌, drop}
use Rattle.run_places.specs.Drawn.{moved}
use Rattle.run_places.proofs.pairs.Pairs.moved.Given as goal

abbrev pub invariant-loop-pair : goal.invariant-loop-pair
invariant-loop-pair l = l.drawn ++ moved l.to (drop l.pair-index l.pair-items) ≡ moved l.to l.pair-items
