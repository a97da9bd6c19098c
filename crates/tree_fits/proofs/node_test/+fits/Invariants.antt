-- Whether what is left fits.
use Rattle.std.proofs.Common.{◌≡◌, drop, map}
use Rattle.tree_nodes.specs.NodeTest.{fits_within, node_fits_within, all_fit, slots_fit}
use Rattle.tree_fits.proofs.node_test.+fits.Given as goal

abbrev pub invariant-node_fits-loop-tree : goal.invariant-node_fits-loop-tree
invariant-node_fits-loop-tree g l = node_fits_within l.node l.levels ≡ all_fit (map fits_within (drop l.tree-index l.tree-items)) l.levels

abbrev pub invariant-tree_fits-loop-slot : goal.invariant-tree_fits-loop-slot
invariant-tree_fits-loop-slot g l =
    fits_within l.tree l.levels ≡ slots_fit l.tree.template.node_paths l.slot (map node_fits_within (drop l.slot l.tree.dynamic_nodes)) l.levels
