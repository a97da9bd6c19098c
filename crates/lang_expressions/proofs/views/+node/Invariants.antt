-- The levels fall from a node to those in it, and what is read so far stands before the rest.
use Rattle.std.proofs.Common.{◌≡◌, ◌+◌, ◌*◌, drop}
use Rattle.serde_json.specs.View.{items_view}
use Rattle.lang_expressions.specs.Lists.{read_each}
use Rattle.lang_expressions.proofs.Steps.{after}
use Rattle.lang_expressions.specs.Views.{node_of}
use Rattle.lang_expressions.proofs.views.+node.Given as goal

abbrev pub decreases-node : goal.decreases-node
decreases-node l = 5 * l.levels

abbrev pub decreases-formed : goal.decreases-formed
decreases-formed l = 5 * l.levels + 4

abbrev pub decreases-element : goal.decreases-element
decreases-element l = 5 * l.levels + 3

abbrev pub decreases-list : goal.decreases-list
decreases-list l = 5 * l.levels + 3

abbrev pub decreases-pick : goal.decreases-pick
decreases-pick l = 5 * l.levels + 3

abbrev pub decreases-fragment : goal.decreases-fragment
decreases-fragment l = 5 * l.levels + 3

abbrev pub decreases-boundary : goal.decreases-boundary
decreases-boundary l = 5 * l.levels + 3

abbrev pub decreases-tree_at : goal.decreases-tree_at
decreases-tree_at l = 5 * l.levels + 2

abbrev pub decreases-nodes : goal.decreases-nodes
decreases-nodes l = 5 * l.levels + 1

abbrev pub invariant-nodes-loop-value : goal.invariant-nodes-loop-value
invariant-nodes-loop-value l =
    read_each (node_of l.levels l.names l.variables) (items_view l.values)
    ≡ after l.read.items (read_each (node_of l.levels l.names l.variables) (items_view (drop l.value-index l.values)))
