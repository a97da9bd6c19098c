-- The numbers so far, and those that are left.
use Rattle.std.proofs.Common.{◌≡◌, ◌++◌, drop}
use Rattle.tree_edits.specs.Documents.{forest_of}
use Rattle.run_shown.specs.Tops.{tops_of}
use Rattle.run_shown.proofs.asked.add_numbers.Given as goal

abbrev pub invariant-loop-node : goal.invariant-loop-node
invariant-loop-node l = l.tops ++ tops_of (forest_of (drop l.node-index l.nodes)) ≡ l.fn.tops ++ tops_of (forest_of l.nodes)
