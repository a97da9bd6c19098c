-- Where it is known what is left, it is known of all.
use Rattle.std.proofs.Common.{drop}
use Rattle.run_places.specs.Trails.{path_of, place_on}
use Rattle.run_work.specs.Grounds.{items_turn, row_turn}
use Rattle.run_work.specs.Met.{Follows}
use Rattle.run_work.proofs.turning.+turning.Given as goal

abbrev pub invariant-nodes_turn-loop-index : goal.invariant-nodes_turn-loop-index
invariant-nodes_turn-loop-index g l =
    (end : _) → Follows g.T.Takes.one (row_turn l.turn l.tree (place_on l.above) (path_of l.up) l.index (drop l.index l.nodes)) l.out end
    → Follows g.T.Takes.one (row_turn l.turn l.tree (place_on l.above) (path_of l.up) 0 l.nodes) l.fn.out end

abbrev pub invariant-trees_turn-loop-position : goal.invariant-trees_turn-loop-position
invariant-trees_turn-loop-position g l =
    (end : _) → Follows g.T.Takes.one (items_turn l.turn l.position (place_on l.trail) (drop l.position l.trees)) l.out end
    → Follows g.T.Takes.one (items_turn l.turn l.first (place_on l.trail) (drop l.first l.trees)) l.fn.out end

abbrev pub decreases-tree_turns : goal.decreases-tree_turns
decreases-tree_turns g l = l.levels

abbrev pub decreases-nodes_turn : goal.decreases-nodes_turn
decreases-nodes_turn g l = l.levels

abbrev pub decreases-node_turns : goal.decreases-node_turns
decreases-node_turns g l = l.levels

abbrev pub decreases-value_turns : goal.decreases-value_turns
decreases-value_turns g l = l.levels

abbrev pub decreases-trees_turn : goal.decreases-trees_turn
decreases-trees_turn g l = l.levels
