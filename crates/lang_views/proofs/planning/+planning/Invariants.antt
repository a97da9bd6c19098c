-- The levels that are left; and the slots so far, and those of the nodes that are left, are all.
use Rattle.std.proofs.Common.{◌+◌, ◌*◌, ◌≡◌, length}
use Rattle.std.specs.Vec.Iter.{into_iter_items, into_iter_len}
use Rattle.lang_syntax.specs.Mirror.{view_of}
use Rattle.lang_views.specs.Meant.{then_filled, filled_by, view_filled}
use Rattle.lang_views.proofs.planning.+planning.Given as goal

abbrev pub decreases-plan_node : goal.decreases-plan_node
decreases-plan_node l = 5 * l.levels

abbrev pub decreases-plan_nodes : goal.decreases-plan_nodes
decreases-plan_nodes l = 5 * l.levels + 1

abbrev pub decreases-plan_of : goal.decreases-plan_of
decreases-plan_of l = 5 * l.levels + 2

abbrev pub decreases-boxed_plan : goal.decreases-boxed_plan
decreases-boxed_plan l = 5 * l.levels + 3

abbrev pub decreases-plan_slot : goal.decreases-plan_slot
decreases-plan_slot l = 5 * l.levels + 4

abbrev pub invariant-plan_nodes-loop-node : goal.invariant-plan_nodes-loop-node
invariant-plan_nodes-loop-node l = record {
  filled : then_filled (filled_by l.fills) (view_filled (view_of (into_iter_items l.node-iterator))) ≡ then_filled (filled_by l.fn.fills) (view_filled (view_of l.fn.nodes));
  count : into_iter_len l.node-iterator ≡ length (into_iter_items l.node-iterator);
}
