-- The edits that a sink took, as contracts alone know them.
use Rattle.std.specs.Prelude.{◌≡◌, ℕ, List, [], ◌∷◌, ◌++◌, map, Option, Some, None}
use Rattle.std.specs.declared.snapshot.Snapshot.{Snapshot}
use Rattle.rt_edits.specs.declared.edit.Edit.{Edit}
use Rattle.rt_edits.specs.declared.edit.Edit.TheVariants as edits
use Rattle.rt_language.specs.Lines.{edit_lines}
use Rattle.tree_edits.specs.Documents.{edit_of}
use Rattle.show_print.specs.declared.taken.Told.{Told}
use Rattle.show_print.specs.declared.taken.Told.TheVariants as told

-- an edit as it was taken
abbrev pub edit_in : Told → Edit
edit_in (told.Appended id nodes) = edits.AppendChildren id nodes.value
edit_in (told.Replaced id nodes) = edits.ReplaceNodeWith id nodes.value
edit_in (told.Inserted id nodes) = edits.InsertNodesAfter id nodes.value
edit_in (told.Removed id) = edits.RemoveNode id
edit_in (told.Written id text) = edits.SetNodeText id text.value
edit_in (told.Set id name namespace value) = edits.SetAttribute id name.value namespace.value value.value
edit_in (told.Listened id name) = edits.CreateEventListener id name.value
edit_in (told.Unlistened id name) = edits.RemoveEventListener id name.value

-- what was taken, the last first
abbrev pub last_first : Option (Snapshot (List Edit) × Told) → List Edit
last_first None = []
last_first (Some last) = edit_in last.1 ∷ (last.0).value

-- edits that stand with the last first, in order
abbrev pub in_order : List Edit → List Edit
in_order [] = []
in_order (e ∷ es) = in_order es ++ e ∷ []

-- the lines of edits, in order
abbrev pub lines_of : List Edit → List (List ℕ)
lines_of edits = edit_lines (map edit_of edits)

-- lines are those of all edits that a sink tells
pub record AreLinesOf (told : Option (List Edit)) (lines : List (List ℕ)) : Type 0 where
  pub edits : List Edit
  pub tells : told ≡ Some edits
  pub printed : lines ≡ lines_of edits
