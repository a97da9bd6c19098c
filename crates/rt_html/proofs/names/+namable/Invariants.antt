-- The nodes so far can be spelt.
use Rattle.std.proofs.Common.{◌≡◌, drop}
use Rattle.tree_edits.specs.Documents.{forest_of}
use Rattle.rt_html.specs.Spelling.{are_namable}
use Rattle.rt_html.proofs.names.+namable.Given as goal

abbrev pub invariant-are_namable-loop-node : goal.invariant-are_namable-loop-node
invariant-are_namable-loop-node l = are_namable (forest_of l.nodes) ≡ are_namable (forest_of (drop l.node-index l.nodes))
