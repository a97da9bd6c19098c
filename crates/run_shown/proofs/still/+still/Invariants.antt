-- What was counted and written so far; each call is one level further down.
use Rattle.run_places.specs.Trails.{path_of, place_on}
use Rattle.run_shown.proofs.Stills.{ItemsSoFar, RowSoFar}
use Rattle.run_shown.proofs.still.+still.Given as goal

abbrev pub invariant-row_still-loop-index : goal.invariant-row_still-loop-index
invariant-row_still-loop-index g l =
    RowSoFar l.sides (place_on l.above) l.new l.old (path_of l.up) l.row l.at l.initial.edits l.index l.next l.edits

abbrev pub invariant-items_still-loop-position : goal.invariant-items_still-loop-position
invariant-items_still-loop-position g l =
    ItemsSoFar l.sides (place_on l.place) l.new l.old l.at l.initial.edits l.position l.next l.edits

abbrev pub decreases-tree_still : goal.decreases-tree_still
decreases-tree_still g l = l.levels

abbrev pub decreases-row_still : goal.decreases-row_still
decreases-row_still g l = l.levels

abbrev pub decreases-node_still : goal.decreases-node_still
decreases-node_still g l = l.levels

abbrev pub decreases-value_still : goal.decreases-value_still
decreases-value_still g l = l.levels

abbrev pub decreases-fragment_still : goal.decreases-fragment_still
decreases-fragment_still g l = l.levels

abbrev pub decreases-items_still : goal.decreases-items_still
decreases-items_still g l = l.levels
