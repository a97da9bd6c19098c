-- What a screen holds, and which rows a draw answers.
use Rattle.std.specs.Prelude.{◌≡◌, ℕ, ◌+◌, Bool, true, false, List, [], ◌∷◌, bytes_eq}
use Rattle.rt_edits.specs.declared.doc_node.DocNode.{DocNode}
use Rattle.rt_model.specs.Lists.{Text}
use Rattle.rt_text.specs.declared.rows.Row.{Row}
use Rattle.rt_text.specs.declared.screen.Screen.{Screen}

-- the nodes of its document
abbrev pub nodes_of : Screen → List DocNode
nodes_of screen = screen.document

-- the rows as they were drawn last
abbrev pub rows_of : Screen → List Text
rows_of screen = screen.rows

-- how many characters a row has at most
abbrev pub width_of : Screen → ℕ
width_of screen = screen.width

-- how many rows there are
abbrev pub height_of : Screen → ℕ
height_of screen = screen.height

-- a screen keeps its size
abbrev pub KeepsSize : Screen → Screen → Type 0
KeepsSize old new = (width_of new ≡ width_of old) × (height_of new ≡ height_of old)

-- a row comes first, unless it is the same as before
abbrev pub unless_same : Bool → ℕ → Text → List Row → List Row
unless_same true at text rows = rows
unless_same false at text rows = record { at = at; text = text } ∷ rows

-- the rows that differ from the old ones, from a row's number on, in order
abbrev pub changed_rows : ℕ → List Text → List Text → List Row
changed_rows at [] news = []
changed_rows at (old ∷ olds) [] = []
changed_rows at (old ∷ olds) (new ∷ news) = unless_same (bytes_eq old new) at new (changed_rows (at + 1) olds news)
