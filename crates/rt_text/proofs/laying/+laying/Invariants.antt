-- What is written so far, with the nodes that are left, is what all nodes give.
use Rattle.std.proofs.Common.{◌≡◌, drop}
use Rattle.tree_edits.specs.Documents.{forest_of}
use Rattle.rt_text.specs.Layout.{laid}
use Rattle.rt_text.proofs.laying.+laying.Given as goal

abbrev pub invariant-lay_all-loop-node : goal.invariant-lay_all-loop-node
invariant-lay_all-loop-node l = laid l.width (forest_of (drop l.node-index l.nodes)) l.writer ≡ laid l.width (forest_of l.nodes) l.fn.writer
