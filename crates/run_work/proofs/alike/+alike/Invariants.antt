-- Where what is left is alike, all is.
use Rattle.std.proofs.Common.{drop}
use Rattle.run_work.specs.Alike.{AlikeTrees, AlikeValues}
use Rattle.run_work.proofs.alike.+alike.Given as goal

abbrev pub invariant-slots_alike-loop-index : goal.invariant-slots_alike-loop-index
invariant-slots_alike-loop-index g l = AlikeValues (drop l.index l.old) (drop l.index l.new) → AlikeValues l.old l.new

abbrev pub invariant-items_alike-loop-index : goal.invariant-items_alike-loop-index
invariant-items_alike-loop-index g l = AlikeTrees (drop l.index l.old) (drop l.index l.new) → AlikeTrees l.old l.new

abbrev pub decreases-trees_alike : goal.decreases-trees_alike
decreases-trees_alike g l = l.levels

abbrev pub decreases-slots_alike : goal.decreases-slots_alike
decreases-slots_alike g l = l.levels

abbrev pub decreases-values_alike : goal.decreases-values_alike
decreases-values_alike g l = l.levels

abbrev pub decreases-items_alike : goal.decreases-items_alike
decreases-items_alike g l = l.levels
