-- Worked rows of attributes with namespaces that an application gives.
use Rattle.std.specs.Prelude.{ℕ, zero, suc, true, false, List, [], ◌∷◌, Option, Some, None, ◌≡◌, codes}
use Rattle.rt_model.specs.Lists.{Text}
use Rattle.rt_model.specs.Tree.{from_slot, no_nodes, element_node, template_with, AttributeValue, text_value, listener, Attribute, Tree, block, no_slots}
use Rattle.rt_model.specs.Fits.{fits}
use Rattle.rt_model.specs.Program.{read}
use Rattle.rt_model.specs.Replay.{Build, Taken, Rerun, Made, WriteOf}
use Rattle.rt_model.specs.Document.{DocElement, Empty, Node, AppendChildren, SetAttribute}
use Rattle.rt_model.specs.Small.{Val, Num, Name, Nought, R, Body, number_of, app_of, use_cell, shows, RowOf}
use Rattle.lang_rows.specs.DocumentRows.{plain, within}

-- an attribute of this name and namespace
abbrev pub worth : Text → Option Text → AttributeValue R → Attribute R
worth name namespace value = record { name = name; namespace = namespace; value = value }

-- an element with one slot of attributes
abbrev pub dressed : List (Attribute R) → Tree R
dressed given = block (template_with (element_node (codes "p") None (from_slot 0 ∷ []) no_nodes no_nodes)) (given ∷ []) no_slots

-- what the slot gives: a name with and without a namespace, then with it alone; another name leaves its namespace
abbrev pub given_by : ℕ → List (Attribute R)
given_by zero =
    worth (codes "id") None (text_value (codes "a"))
    ∷ worth (codes "id") (Some (codes "x")) (text_value (codes "b"))
    ∷ worth (codes "ku") (Some (codes "x")) (text_value (codes "c"))
    ∷ []
given_by (suc n) = worth (codes "id") (Some (codes "x")) (text_value (codes "d")) ∷ worth (codes "ku") None (text_value (codes "c")) ∷ []

-- an application whose cell changes what the slot gives
abbrev pub dresses : Name → List Val → Body
dresses name props = use_cell (Num 0) (λ c. read c (λ v. shows (dressed (given_by (number_of v)))))

-- the row: a name in another namespace is another attribute
abbrev pub NamesRow : Type 0
NamesRow =
    RowOf
    (app_of dresses)
    []
    (WriteOf 1 (Num 1) ∷ [])
    ((Build ∷ Made 1 ∷ Made 2 ∷ Made 3 ∷ []) ∷ (Taken 1 ∷ Rerun 3 ∷ []) ∷ [])
    (
    (AppendChildren
    0
    (Node
    1
    (DocElement
    (codes "p")
    None
    (plain (codes "id") (codes "a") ∷ within (codes "x") (codes "id") (codes "b") ∷ within (codes "x") (codes "ku") (codes "c") ∷ [])
    [])
    Empty
    Empty)
    ∷ [])
    ∷
    (SetAttribute 1 (codes "id") None None
    ∷ SetAttribute 1 (codes "ku") (Some (codes "x")) None
    ∷ SetAttribute 1 (codes "id") (Some (codes "x")) (Some (codes "d"))
    ∷ SetAttribute 1 (codes "ku") None (Some (codes "c"))
    ∷ [])
    ∷ []
    )

-- the row of the node test: a name stands once in each namespace, and a listener has none
abbrev pub FitRow : Type 0
FitRow =
    (fits
    (dressed
    (worth (codes "id") None (text_value (codes "a")) ∷ worth (codes "id") (Some (codes "x")) (text_value (codes "b")) ∷ []))
    ≡
    true)
    ×
    (fits
    (dressed
    (worth (codes "id") (Some (codes "x")) (text_value (codes "a"))
    ∷ worth (codes "id") (Some (codes "x")) (text_value (codes "b"))
    ∷ []))
    ≡
    false)
    ×
    (fits (dressed (worth (codes "onclick") (Some (codes "x")) (listener 3 Nought) ∷ [])) ≡ false)
    ×
    (fits (dressed (worth (codes "onclick") None (listener 3 Nought) ∷ [])) ≡ true)
