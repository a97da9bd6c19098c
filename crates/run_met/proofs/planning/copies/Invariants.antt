-- The copies so far, and the trees that are left, are all trees.
use Rattle.std.proofs.Common.{◌≡◌, ◌++◌, drop}
use Rattle.run_met.proofs.planning.copies.Given as goal

abbrev pub invariant-loop-tree : goal.invariant-loop-tree
invariant-loop-tree g l = l.copies ++ drop l.tree-index l.trees ≡ l.trees
