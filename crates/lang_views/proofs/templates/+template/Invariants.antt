-- The nodes so far, and those that are left, are all; so are their paths.
use Rattle.std.proofs.Common.{◌≡◌, drop}
use Rattle.lang_syntax.specs.Mirror.{view_of}
use Rattle.lang_views.proofs.Rows.{RowSoFar}
use Rattle.lang_views.proofs.templates.+template.Given as goal

abbrev pub invariant-row_of-loop-node : goal.invariant-row_of-loop-node
invariant-row_of-loop-node l = record {
  index : l.index ≡ l.node-index;
  built : RowSoFar l.fn.paths l.paths (view_of l.nodes) (view_of (drop l.node-index l.nodes)) l.made l.node-index;
}
