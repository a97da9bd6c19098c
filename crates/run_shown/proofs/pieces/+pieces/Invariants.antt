-- What was found so far, and what is left, are the whole.
use Rattle.std.proofs.Common.{◌≡◌, ◌++◌, drop}
use Rattle.run_places.specs.Trails.{path_of, place_on}
use Rattle.run_shown.specs.Pieces.{items_pieces, row_pieces}
use Rattle.run_shown.proofs.pieces.+pieces.Given as goal

abbrev pub invariant-add_nodes-loop-index : goal.invariant-add_nodes-loop-index
invariant-add_nodes-loop-index g l =
    l.tops ++ row_pieces l.stands.side.now l.stands.tree.now (place_on l.stands.above.now) (path_of l.up) l.index (drop l.index l.nodes) ≡
    l.fn.tops ++ row_pieces l.stands.side.now l.stands.tree.now (place_on l.stands.above.now) (path_of l.up) 0 l.nodes

abbrev pub invariant-add_items-loop-index : goal.invariant-add_items-loop-index
invariant-add_items-loop-index g l =
    l.tops ++ items_pieces l.side l.first l.index (place_on l.place) (drop l.index l.trees) ≡ l.fn.tops ++ items_pieces l.side l.first 0 (place_on l.place) l.trees

abbrev pub decreases-add_tree : goal.decreases-add_tree
decreases-add_tree g l = l.levels

abbrev pub decreases-add_nodes : goal.decreases-add_nodes
decreases-add_nodes g l = l.levels

abbrev pub decreases-add_node : goal.decreases-add_node
decreases-add_node g l = l.levels

abbrev pub decreases-add_slot : goal.decreases-add_slot
decreases-add_slot g l = l.levels

abbrev pub decreases-add_items : goal.decreases-add_items
decreases-add_items g l = l.levels
