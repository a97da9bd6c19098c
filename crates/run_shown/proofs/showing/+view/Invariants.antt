-- What shows so far, and what is left, are what the whole shows.
use Rattle.std.proofs.Common.{◌≡◌, drop}
use Rattle.rt_model.specs.Document.{join_rows}
use Rattle.tree_edits.specs.Documents.{forest_of}
use Rattle.run_places.specs.Trails.{path_of, place_on}
use Rattle.run_shown.specs.Seen.{items_seen, row_in}
use Rattle.run_shown.proofs.showing.+view.Given as goal

abbrev pub invariant-show_nodes-loop-index : goal.invariant-show_nodes-loop-index
invariant-show_nodes-loop-index g l =
    join_rows (forest_of l.row) (row_in l.standing (path_of l.up) l.index (drop l.index l.nodes)) ≡
    join_rows (forest_of l.fn.row) (row_in l.standing (path_of l.up) 0 l.nodes)

abbrev pub invariant-show_items-loop-index : goal.invariant-show_items-loop-index
invariant-show_items-loop-index g l =
    join_rows (forest_of l.row) (items_seen l.shown.asked l.shown.side.now l.first l.index (place_on l.place) (drop l.index l.trees)) ≡
    join_rows (forest_of l.fn.row) (items_seen l.shown.asked l.shown.side.now l.first 0 (place_on l.place) l.trees)

abbrev pub decreases-show_scope : goal.decreases-show_scope
decreases-show_scope g l = l.levels

abbrev pub decreases-show_side : goal.decreases-show_side
decreases-show_side g l = l.levels

abbrev pub decreases-show_tree : goal.decreases-show_tree
decreases-show_tree g l = l.levels

abbrev pub decreases-show_nodes : goal.decreases-show_nodes
decreases-show_nodes g l = l.levels

abbrev pub decreases-show_node : goal.decreases-show_node
decreases-show_node g l = l.levels

abbrev pub decreases-show_value : goal.decreases-show_value
decreases-show_value g l = l.levels

abbrev pub decreases-show_slot : goal.decreases-show_slot
decreases-show_slot g l = l.levels

abbrev pub decreases-show_child : goal.decreases-show_child
decreases-show_child g l = l.levels

abbrev pub decreases-show_items : goal.decreases-show_items
decreases-show_items g l = l.levels

abbrev pub decreases-show_asked : goal.decreases-show_asked
decreases-show_asked g l = l.levels
