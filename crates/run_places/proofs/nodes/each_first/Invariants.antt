-- Each of those before is the first one at its place.
use Rattle.std.proofs.Common.{ℕ, ◌<◌}
use Rattle.run_places.specs.Indexed.{IsFirstNodes}
use Rattle.run_places.proofs.nodes.each_first.Given as goal

abbrev pub invariant-loop-index : goal.invariant-loop-index
invariant-loop-index l = (i : ℕ) → i < l.index → IsFirstNodes l.items i
