-- What is written so far, with the nodes that are left, is what is to be written.
use Rattle.std.proofs.Common.{◌≡◌, ◌++◌, drop}
use Rattle.tree_edits.specs.Documents.{forest_of}
use Rattle.rt_html.specs.Spelling.{html}
use Rattle.rt_html.proofs.spelling.+spelt.Given as goal

abbrev pub invariant-put_nodes-loop-node : goal.invariant-put_nodes-loop-node
invariant-put_nodes-loop-node l = l.writer ++ html (forest_of (drop l.node-index l.nodes)) ≡ l.fn.writer ++ html (forest_of l.nodes)
