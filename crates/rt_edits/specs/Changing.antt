-- How a change is made in place, from a list of nodes on down.
use Rattle.std.specs.Prelude.{◌≡◌, ℕ, true, false, List, [], ◌∷◌, ◌++◌, Option, Some, None, Result, Ok, Err}
use Rattle.rt_values.specs.declared.memory.OutOfMemory.{OutOfMemory}
use Rattle.rt_edits.specs.Nodes.{numbers, numbers_below, has, changed, changed_below}
use Rattle.rt_edits.specs.Document.{instead}
use Rattle.rt_edits.specs.declared.doc_node.DocNode.{DocNode}
use Rattle.rt_edits.specs.declared.doc_node.DocKind.{DocKind}
use Rattle.rt_edits.specs.declared.edit.Edit.{Edit}

-- nodes with others in the place of the first
abbrev pub with_first : (DocNode → List DocNode) → List DocNode → List DocNode
with_first change [] = []
with_first change (node ∷ nodes) = change node ++ nodes

-- the edit is made of the first node of this number; there is none, and the edit comes back; or memory is out, and nothing changed
abbrev pub Changes : ℕ → Edit → List DocNode → List DocNode → Result (Option Edit) OutOfMemory → Type 0
Changes number edit old new (Ok None) = (has number (numbers old) ≡ true) × (new ≡ changed number (instead edit) old)
Changes number edit old new (Ok (Some back)) = (has number (numbers old) ≡ false) × (new ≡ old) × (back ≡ edit)
Changes number edit old new (Err error) = new ≡ old

-- the same below a node of this kind
abbrev pub ChangesBelow : ℕ → Edit → DocKind → DocKind → Result (Option Edit) OutOfMemory → Type 0
ChangesBelow number edit old new (Ok None) = (has number (numbers_below old) ≡ true) × (new ≡ changed_below number (instead edit) old)
ChangesBelow number edit old new (Ok (Some back)) = (has number (numbers_below old) ≡ false) × (new ≡ old) × (back ≡ edit)
ChangesBelow number edit old new (Err error) = new ≡ old
