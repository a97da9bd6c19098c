-- The components of the generated application, as code has them.
use Rattle.std.specs.Prelude.{ℕ, List, [], ◌∷◌, None, pos, codes}
use Rattle.lang_syntax.specs.declared.expression.Literal.TheVariants.{Number}
use Rattle.lang_syntax.specs.declared.expression.Expression.TheVariants.{Say, Get, Read}
use Rattle.lang_syntax.specs.declared.statement.Statement.TheVariants.{UseCell}
use Rattle.lang_syntax.specs.declared.source.ComponentSource.{ComponentSource}
use Rattle.lang_syntax.specs.declared.view.ViewNode.{ViewNode}
use Rattle.lang_syntax.specs.declared.view.ViewNode.TheVariants.{Element, Slot}
use Rattle.lang_syntax.specs.declared.view.ViewSlot.{ViewSlot}
use Rattle.lang_syntax.specs.declared.view.ViewSlot.TheVariants.{TextOf, UseOf, ListOf}

-- an element round one slot
abbrev pub slot_in : List ℕ → ViewSlot → List ViewNode
slot_in tag slot = Element tag None [] (Slot slot ∷ []) ∷ []

-- the root: a list of so many rows
abbrev pub list_of_rows : ℕ → ComponentSource
list_of_rows rows = record {
  statements = [];
  view = slot_in (codes "ul") (ListOf (Say (Number (pos rows))) (Slot (UseOf (record { component = 1; props = Get 0 ∷ [] })) ∷ []));
}

-- a row, which shows the cell that it makes of its number
abbrev pub row_of_list : ComponentSource
row_of_list = record { statements = UseCell (Get 0) ∷ []; view = slot_in (codes "li") (TextOf (Read 1)) }
