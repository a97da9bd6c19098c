-- What is left finds what the whole finds.
use Rattle.std.proofs.Common.{◌≡◌, drop}
use Rattle.run_places.specs.Trails.{path_of, place_on}
use Rattle.run_shown.specs.Climbs.{items_climb, row_climb}
use Rattle.run_shown.proofs.climb.+find.Given as goal

abbrev pub invariant-find_nodes-loop-index : goal.invariant-find_nodes-loop-index
invariant-find_nodes-loop-index g l =
    row_climb (l.standing.shown.now).look.now l.number (l.standing.shown.now).depth (l.standing.shown.now).side.now l.standing.tree.now (place_on l.standing.above.now) (path_of l.up) l.index (drop l.index l.nodes) ≡
    row_climb (l.standing.shown.now).look.now l.number (l.standing.shown.now).depth (l.standing.shown.now).side.now l.standing.tree.now (place_on l.standing.above.now) (path_of l.up) 0 l.nodes

abbrev pub invariant-find_items-loop-position : goal.invariant-find_items-loop-position
invariant-find_items-loop-position g l =
    items_climb l.shown.look.now l.number l.shown.depth l.shown.side.now l.position (place_on l.place) (drop l.position l.trees) ≡
    items_climb l.shown.look.now l.number l.shown.depth l.shown.side.now 0 (place_on l.place) l.trees

abbrev pub decreases-find_within : goal.decreases-find_within
decreases-find_within g l = l.levels

abbrev pub decreases-find_side : goal.decreases-find_side
decreases-find_side g l = l.levels

abbrev pub decreases-find_tree : goal.decreases-find_tree
decreases-find_tree g l = l.levels

abbrev pub decreases-find_nodes : goal.decreases-find_nodes
decreases-find_nodes g l = l.levels

abbrev pub decreases-find_node : goal.decreases-find_node
decreases-find_node g l = l.levels

abbrev pub decreases-find_slot : goal.decreases-find_slot
decreases-find_slot g l = l.levels

abbrev pub decreases-find_child : goal.decreases-find_child
decreases-find_child g l = l.levels

abbrev pub decreases-find_items : goal.decreases-find_items
decreases-find_items g l = l.levels
