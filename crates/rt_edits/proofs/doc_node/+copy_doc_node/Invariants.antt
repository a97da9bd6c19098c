-- What a copy of nodes holds so far.
use Rattle.std.proofs.Common.{◌≡◌, take}
use Rattle.rt_edits.proofs.doc_node.+copy_doc_node.Given as goal

abbrev pub invariant-copy_nodes-loop-node : goal.invariant-copy_nodes-loop-node
invariant-copy_nodes-loop-node l = l.copied ≡ take l.node-index l.nodes
