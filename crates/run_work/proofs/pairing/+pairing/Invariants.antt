-- Where it is known what is left, it is known of all.
use Rattle.std.proofs.Common.{◌≤◌, [], length, take, drop}
use Rattle.run_places.specs.Trails.{path_of, place_on}
use Rattle.run_work.specs.Met.{Meets}
use Rattle.run_work.specs.Pairs.{items_pair, row_pair}
use Rattle.run_work.proofs.pairing.+pairing.Given as goal

abbrev pub invariant-pair_nodes-loop-index : goal.invariant-pair_nodes-loop-index
invariant-pair_nodes-loop-index g l =
    (end : _) → Meets g.T.Takes.one l.out end (λ app. row_pair app l.old l.new (place_on l.above) (path_of l.up) l.index (drop l.index l.nodes))
    → Meets g.T.Takes.one l.fn.out end (λ app. row_pair app l.old l.new (place_on l.above) (path_of l.up) 0 l.nodes)

abbrev pub invariant-pair_items-loop-position : goal.invariant-pair_items-loop-position
invariant-pair_items-loop-position g l =
    (l.position ≤ length l.were) × ((end : _)
    → Meets g.T.Takes.one l.out end (λ app. items_pair app l.position (place_on l.trail) (take l.position l.are) (drop l.position l.were) (drop l.position l.are))
    → Meets g.T.Takes.one l.fn.out end (λ app. items_pair app 0 (place_on l.trail) [] l.were l.are))

abbrev pub decreases-pair_tree : goal.decreases-pair_tree
decreases-pair_tree g l = l.levels

abbrev pub decreases-pair_nodes : goal.decreases-pair_nodes
decreases-pair_nodes g l = l.levels

abbrev pub decreases-pair_node : goal.decreases-pair_node
decreases-pair_node g l = l.levels

abbrev pub decreases-pair_slot : goal.decreases-pair_slot
decreases-pair_slot g l = l.levels

abbrev pub decreases-pair_values : goal.decreases-pair_values
decreases-pair_values g l = l.levels

abbrev pub decreases-pair_fragments : goal.decreases-pair_fragments
decreases-pair_fragments g l = l.levels

abbrev pub decreases-pair_items : goal.decreases-pair_items
decreases-pair_items g l = l.levels
