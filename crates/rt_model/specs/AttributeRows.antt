-- A worked row of attributes that move from one slot to another.
use Rattle.std.specs.Prelude.{ℕ, zero, suc, List, [], ◌∷◌, Some, None, codes}
use Rattle.rt_model.specs.Lists.{Text}
use Rattle.rt_model.specs.Tree.{from_slot, no_nodes, element_node, template_with, Attribute, Tree, block, text_value, no_slots}
use Rattle.rt_model.specs.Program.{current_scope, read}
use Rattle.rt_model.specs.Replay.{Build, Taken, Rerun, Made, WriteOf}
use Rattle.rt_model.specs.Document.{DocAttribute, DocElement, Empty, Node, AppendChildren, SetAttribute, CreateEventListener}
use Rattle.rt_model.specs.Small.{Val, Num, Name, Nought, R, Body, number_of, app_of, use_cell, shows, RowOf}
use Rattle.rt_model.specs.Pieces.{on}

-- two attribute slots of one element: a name moves from the first to the second, a listener comes, a text goes
abbrev pub worth : Text → Text → Attribute R
worth name value = record { name = name; namespace = None; value = text_value value }

-- what the first slot gives
abbrev pub first_given : ℕ → ℕ → List (Attribute R)
first_given s zero = worth (codes "a") (codes "1") ∷ worth (codes "b") (codes "2") ∷ []
first_given s (suc n) = on s (codes "onclick") Nought ∷ []

-- what the second slot gives
abbrev pub second_given : ℕ → List (Attribute R)
second_given zero = worth (codes "c") (codes "3") ∷ []
second_given (suc n) = worth (codes "c") (codes "4") ∷ worth (codes "a") (codes "1") ∷ []

-- an element with the two slots
abbrev pub dressed : ℕ → ℕ → Tree R
dressed s n =
    block
    (template_with (element_node (codes "p") None (from_slot 0 ∷ from_slot 1 ∷ []) no_nodes no_nodes))
    (first_given s n ∷ second_given n ∷ [])
    no_slots

-- an application whose cell changes what the slots give
abbrev pub dresses : Name → List Val → Body
dresses name props = use_cell (Num 0) (λ c. read c (λ v. current_scope (λ s. shows (dressed s (number_of v)))))

-- an attribute of a document, without a namespace
abbrev pub in_document : Text → Text → DocAttribute
in_document name value = record { name = name; namespace = None; value = value }

-- the row: what a slot no longer gives goes first, then what is new comes
abbrev pub AttributesMove : Type 0
AttributesMove =
    RowOf
    (app_of dresses)
    []
    (WriteOf 1 (Num 1) ∷ [])
    (
    (Build ∷ Made 1 ∷ Made 2 ∷ Made 3 ∷ [])
    ∷
    (Taken 1 ∷ Rerun 3 ∷ [])
    ∷
    []
    )
    (
    (AppendChildren 0 (Node 1
    (DocElement (codes "p") None (in_document (codes "a") (codes "1") ∷ in_document (codes "b") (codes "2")
    ∷ in_document (codes "c") (codes "3") ∷ []) []) Empty Empty) ∷ [])
    ∷
    (SetAttribute 1 (codes "a") None None ∷ SetAttribute 1 (codes "b") None None ∷ CreateEventListener 1 (codes "onclick")
    ∷ SetAttribute 1 (codes "c") None (Some (codes "4")) ∷ SetAttribute 1 (codes "a") None (Some (codes "1")) ∷ [])
    ∷
    []
    )
