-- What is written so far, and what is left, are what all nodes give.
use Rattle.std.proofs.Common.{◌≡◌, drop}
use Rattle.tree_nodes.specs.Forms.{form_then, nodes_in_form}
use Rattle.tree_nodes.specs.declared.written.Form.{Form}
use Rattle.tree_nodes.proofs.written.+written.Given as goal

abbrev pub invariant-write_nodes-loop-node : goal.invariant-write_nodes-loop-node
invariant-write_nodes-loop-node l =
    (rest : Form) → form_then l.form (nodes_in_form (drop l.node-index l.nodes) rest) ≡ form_then l.fn.form (nodes_in_form l.nodes rest)
