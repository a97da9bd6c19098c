-- The edits that are left lead to just what all of them lead to.
use Rattle.std.proofs.Common.{◌≡◌, List, drop}
use Rattle.rt_edits.specs.declared.doc_node.DocNode.{DocNode}
use Rattle.tree_documents.specs.Cuts.{LeadsTo}
use Rattle.rt_text.specs.Screens.{nodes_of, rows_of, KeepsSize}
use Rattle.rt_text.proofs.screen.Screen.take_all.Given as goal

abbrev pub invariant-loop-edit : goal.invariant-loop-edit
invariant-loop-edit l = record {
  back : (next : List DocNode) → LeadsTo (drop l.edit-index l.edits) (nodes_of l.self) next → LeadsTo l.edits (nodes_of l.fn.self) next;
  on : (next : List DocNode) → LeadsTo l.edits (nodes_of l.fn.self) next → LeadsTo (drop l.edit-index l.edits) (nodes_of l.self) next;
  rows : rows_of l.self ≡ rows_of l.fn.self;
  size : KeepsSize l.fn.self l.self;
}
