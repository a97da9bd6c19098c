-- Each call goes one level down.
use Rattle.run_shown.proofs.aimed.+aim.Given as goal

abbrev pub decreases-aim_within : goal.decreases-aim_within
decreases-aim_within g l = l.levels

abbrev pub decreases-aim_side : goal.decreases-aim_side
decreases-aim_side g l = l.levels

abbrev pub decreases-aim_output : goal.decreases-aim_output
decreases-aim_output g l = l.levels

abbrev pub decreases-aim_tree : goal.decreases-aim_tree
decreases-aim_tree g l = l.levels

abbrev pub decreases-aim_step : goal.decreases-aim_step
decreases-aim_step g l = l.levels

abbrev pub decreases-aim_nodes : goal.decreases-aim_nodes
decreases-aim_nodes g l = l.levels

abbrev pub decreases-aim_node : goal.decreases-aim_node
decreases-aim_node g l = l.levels

abbrev pub decreases-aim_slot : goal.decreases-aim_slot
decreases-aim_slot g l = l.levels

abbrev pub decreases-aim_child : goal.decreases-aim_child
decreases-aim_child g l = l.levels

abbrev pub decreases-aim_items : goal.decreases-aim_items
decreases-aim_items g l = l.levels

abbrev pub decreases-aim_item : goal.decreases-aim_item
decreases-aim_item g l = l.levels
