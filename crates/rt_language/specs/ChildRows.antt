-- Worked rows of parents and children: who is fed, who is kept, who goes, and what clean-ups write.
use Rattle.std.specs.Prelude.{ℕ, List, [], ◌∷◌, ◌++◌, codes}
use Rattle.rt_model.specs.Lists.{Text}
use Rattle.rt_model.specs.Replay.{Taken, Rerun, Made, Fed, Kept, Removed}
use Rattle.rt_language.specs.Syntax.{Expression, Get, Read, Cat, AtRemoval, Statement, UseCell, CallAt, WriteTo, NoViews, PickOf, SlotView, TextOf, Source}
use Rattle.rt_language.specs.Printed.{Prints}
use Rattle.rt_language.specs.Shorthand.{number, words, these, slot, text_slot, text, use_alone, component, of_components, with_actions, write_number, builds, lines}

-- a parent that shows its cell and hands this on to a child
abbrev pub parent_and_child : List Expression → Expression → Source
parent_and_child props shown =
    of_components
    (component (UseCell (number 1) ∷ []) (SlotView (TextOf (Read 0)) (use_alone 1 props)) ∷ component [] (text_slot shown) ∷ [])
    (write_number 1 2 ∷ [])

-- the row of a parent that feeds its child
abbrev pub FedRow : Type 0
FedRow =
    Prints
    (parent_and_child (Get 0 ∷ Read 0 ∷ []) (Cat (these (Read 0 ∷ words (codes "/") ∷ Get 1 ∷ []))))
    (builds 4 ∷ (Taken 1 ∷ Rerun 3 ∷ Fed 4 ∷ []) ∷ [])
    (lines
    (codes "append #0 \"1\"#1 \"1/1\"#2"
    ∷ codes "text #1 \"2\""
    ∷ codes "text #2 \"2/2\""
    ∷ codes "report 0 units 0 bodies 5 edits 1 log build made:1 made:2 made:3 made:4"
    ∷ codes "report 1 units 1 bodies 2 edits 2 log input:1 rerun:3 fed:4"
    ∷ []))

-- the row of a child that is kept and reruns by its own mark
abbrev pub KeptRow : Type 0
KeptRow =
    Prints
    (parent_and_child (Get 0 ∷ []) (Read 0))
    (builds 4 ∷ (Taken 1 ∷ Rerun 3 ∷ Kept 4 ∷ Rerun 4 ∷ []) ∷ [])
    (lines
    (codes "append #0 \"1\"#1 \"1\"#2"
    ∷ codes "text #1 \"2\""
    ∷ codes "text #2 \"2\""
    ∷ codes "report 0 units 0 bodies 5 edits 1 log build made:1 made:2 made:3 made:4"
    ∷ codes "report 1 units 2 bodies 2 edits 2 log input:1 rerun:3 kept:4 rerun:4"
    ∷ []))

-- a child with a child, which go where the cell is 0
abbrev pub nested : Source
nested =
    of_components
    (component (UseCell (number 1) ∷ []) (slot (PickOf (Read 0) (use_alone 2 (Get 0 ∷ [])) NoViews))
    ∷ component [] (text_slot (Read 0))
    ∷ component [] (use_alone 1 (Get 0 ∷ []))
    ∷ [])
    (write_number 1 0 ∷ [])

-- the row of a removal, the deepest scope first
abbrev pub RemovalRow : Type 0
RemovalRow =
    Prints
    nested
    (builds 5 ∷ (Taken 1 ∷ Rerun 3 ∷ Removed 5 ∷ Removed 4 ∷ []) ∷ [])
    (lines
    (codes "append #0 \"1\"#1"
    ∷ codes "replace #1 _#2"
    ∷ codes "report 0 units 0 bodies 6 edits 1 log build made:1 made:2 made:3 made:4 made:5"
    ∷ codes "report 1 units 1 bodies 1 edits 1 log input:1 rerun:3 removed:5 removed:4"
    ∷ []))

-- a clean-up that writes a text to a cell
abbrev pub sets : ℕ → Text → Statement
sets cell t = CallAt AtRemoval 0 (these (Get cell ∷ words t ∷ []))

-- an old child with clean-ups, in whose place a new one comes
abbrev pub replaced : List Statement → Source
replaced old =
    with_actions
    (of_components
    (component
    (UseCell (words (codes "-")) ∷ UseCell (number 1) ∷ [])
    (SlotView (TextOf (Read 0)) (slot (PickOf (Read 1) (use_alone 2 (Get 0 ∷ [])) (use_alone 1 []))))
    ∷ component [] (text (codes "new"))
    ∷ component old (text (codes "old"))
    ∷ [])
    (write_number 2 0 ∷ []))
    ((WriteTo 0 (Get 1) ∷ []) ∷ [])

-- the row of three clean-ups, last made first
abbrev pub CleanUpRow : Type 0
CleanUpRow =
    Prints
    (replaced (sets 0 (codes "A") ∷ sets 0 (codes "B") ∷ sets 0 (codes "C") ∷ []))
    (builds 4 ∷ (Taken 1 ∷ Rerun 3 ∷ Made 5 ∷ Removed 4 ∷ Rerun 3 ∷ Kept 5 ∷ []) ∷ [])
    (lines
    (codes "append #0 \"-\"#1 \"old\"#2"
    ∷ codes "replace #2 \"new\"#3"
    ∷ codes "text #1 \"A\""
    ∷ codes "report 0 units 0 bodies 5 edits 1 log build made:1 made:2 made:3 made:4"
    ∷ codes "report 1 units 2 bodies 3 edits 2 log input:1 rerun:3 made:5 removed:4 rerun:3 kept:5"
    ∷ []))

-- the row of a clean-up that writes a cell of its own scope
abbrev pub OwnCellRow : Type 0
OwnCellRow =
    Prints
    (replaced (UseCell (words (codes "-")) ∷ sets 1 (codes "A") ∷ []))
    (builds 4 ∷ (Taken 1 ∷ Rerun 3 ∷ Made 5 ∷ Removed 4 ∷ []) ∷ [])
    (lines
    (codes "append #0 \"-\"#1 \"old\"#2"
    ∷ codes "replace #2 \"new\"#3"
    ∷ codes "report 0 units 0 bodies 5 edits 1 log build made:1 made:2 made:3 made:4"
    ∷ codes "report 1 units 1 bodies 2 edits 1 log input:1 rerun:3 made:5 removed:4"
    ∷ []))

-- a child that writes what its parent read
abbrev pub written_below : Source
written_below =
    of_components
    (component (UseCell (number 0) ∷ []) (SlotView (TextOf (Read 0)) (use_alone 1 (Get 0 ∷ [])))
    ∷ component (WriteTo 0 (number 1) ∷ []) (text (codes "k"))
    ∷ [])
    []

-- the row of a write from below
abbrev pub WrittenBelowRow : Type 0
WrittenBelowRow =
    Prints
    written_below
    ((builds 4 ++ Rerun 3 ∷ Kept 4 ∷ []) ∷ [])
    (lines
    (codes "append #0 \"0\"#1 \"k\"#2"
    ∷ codes "text #1 \"1\""
    ∷ codes "report 0 units 1 bodies 6 edits 2 log build made:1 made:2 made:3 made:4 rerun:3 kept:4"
    ∷ []))
