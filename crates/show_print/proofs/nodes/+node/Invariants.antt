-- What the line has, with the nodes that are still to come, is what it is to have.
use Rattle.std.proofs.Common.{◌≡◌, ◌++◌, drop}
use Rattle.tree_edits.specs.Documents.{forest_of}
use Rattle.rt_language.specs.Lines.{spaced, node_texts}
use Rattle.show_print.proofs.nodes.+node.Given as goal

abbrev pub invariant-put_nodes-loop-node : goal.invariant-put_nodes-loop-node
invariant-put_nodes-loop-node l =
    l.line ++ spaced (node_texts (forest_of (drop l.node-index l.nodes))) ≡ l.fn.line ++ spaced (node_texts (forest_of l.nodes))
