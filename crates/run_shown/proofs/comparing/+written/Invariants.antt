-- What was written so far, and what is left, are what the whole writes; each call is one level further down.
use Rattle.std.proofs.Common.{◌≤◌, length, drop}
use Rattle.run_places.specs.Trails.{path_of, place_on}
use Rattle.run_shown.specs.Units.{ItemsLeft, RowLeft}
use Rattle.run_shown.specs.Written.{edited_of}
use Rattle.run_shown.proofs.comparing.+written.Given as goal

abbrev pub invariant-nodes_written-loop-index : goal.invariant-nodes_written-loop-index
invariant-nodes_written-loop-index g l = RowLeft (edited_of l.written) l.sides (place_on l.above) l.new l.old (path_of l.up) l.index (drop l.index l.nodes) l.nodes

abbrev pub invariant-items_written-loop-position : goal.invariant-items_written-loop-position
invariant-items_written-loop-position g l = record {
  within : l.position ≤ length l.old;
  left : ItemsLeft (edited_of l.written) l.sides (place_on l.place) l.position l.new l.old;
}

abbrev pub decreases-written_within : goal.decreases-written_within
decreases-written_within g l = l.levels

abbrev pub decreases-scope_written : goal.decreases-scope_written
decreases-scope_written g l = l.levels

abbrev pub decreases-found_written : goal.decreases-found_written
decreases-found_written g l = l.levels

abbrev pub decreases-side_written : goal.decreases-side_written
decreases-side_written g l = l.levels

abbrev pub decreases-outputs_written : goal.decreases-outputs_written
decreases-outputs_written g l = l.levels

abbrev pub decreases-tree_written : goal.decreases-tree_written
decreases-tree_written g l = l.levels

abbrev pub decreases-nodes_written : goal.decreases-nodes_written
decreases-nodes_written g l = l.levels

abbrev pub decreases-node_written : goal.decreases-node_written
decreases-node_written g l = l.levels

abbrev pub decreases-slot_written : goal.decreases-slot_written
decreases-slot_written g l = l.levels

abbrev pub decreases-component_written : goal.decreases-component_written
decreases-component_written g l = l.levels

abbrev pub decreases-fragment_written : goal.decreases-fragment_written
decreases-fragment_written g l = l.levels

abbrev pub decreases-child_written : goal.decreases-child_written
decreases-child_written g l = l.levels

abbrev pub decreases-items_written : goal.decreases-items_written
decreases-items_written g l = l.levels
