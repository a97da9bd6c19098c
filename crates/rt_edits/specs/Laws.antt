-- What holds of a document whatever edits it takes.
use Rattle.std.specs.Prelude.{◌≡◌, ◌≢◌, ℕ, ◌≤◌, List, ◌∷◌, ◌++◌, Some}
use Rattle.rt_edits.specs.Nodes.{Parts, parts_of, numbers, times}
use Rattle.rt_edits.specs.Document.{named, carried}
use Rattle.rt_edits.specs.declared.doc_node.DocNode.{DocNode}
use Rattle.rt_edits.specs.declared.edit.Edit.{Edit}

-- each number stands once at most, and none is the root container's
abbrev pub IsNumbered : List DocNode → Type 0
IsNumbered nodes = (times 0 (numbers nodes) ≡ 0) × ((number : ℕ) → times number (numbers nodes) ≤ 1)

-- nodes that differ in what stands in the place of one node of this number, and nowhere else
pub data DiffersAt (number : ℕ) : List DocNode → List DocNode → Type 0 where
  -- the node stands here, and others stand there in its place
  Here : (before behind others old new : List DocNode) (node : DocNode) → node.id.0 ≡ number →
      old ≡ before ++ node ∷ behind → new ≡ before ++ (others ++ behind) → DiffersAt number old new
  -- the node stands below an element, of which all but the children stays
  Below : (before behind children old new : List DocNode) (node made : DocNode) (parts : Parts) →
      made.id ≡ node.id → parts_of node.kind ≡ Some parts → parts_of made.kind ≡ Some (record parts { children = children })
      → DiffersAt number parts.children children →
      old ≡ before ++ node ∷ behind → new ≡ before ++ made ∷ behind → DiffersAt number old new

-- an edit changes nothing outside the node that it names; one of the root container only adds nodes at its end
abbrev pub ChangesOnly : Edit → List DocNode → List DocNode → Type 0
ChangesOnly edit old new = (named edit ≡ 0 → new ≡ old ++ carried edit) × (named edit ≢ 0 → DiffersAt (named edit) old new)
