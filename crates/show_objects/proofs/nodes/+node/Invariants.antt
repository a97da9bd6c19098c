-- What the line has, with the nodes that are still to come, is what it is to have.
use Rattle.std.proofs.Common.{◌≡◌, ◌++◌, drop}
use Rattle.json.specs.Json.{array}
use Rattle.json.specs.Tree.{items_tokens, json_tokens}
use Rattle.show_objects.specs.Objects.{node_items}
use Rattle.tree_edits.specs.Documents.{forest_of}
use Rattle.show_objects.proofs.nodes.+node.Given as goal

abbrev pub invariant-put_nodes-loop-node : goal.invariant-put_nodes-loop-node
invariant-put_nodes-loop-node l =
    l.object ++ items_tokens (node_items (forest_of (drop l.node-index l.nodes)))
    ≡ l.fn.object ++ json_tokens (array (node_items (forest_of l.nodes)))
