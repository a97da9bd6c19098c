-- Worked rows of memos and resources.
use Rattle.std.specs.Prelude.{[], ◌∷◌, ◌++◌, codes}
use Rattle.rt_model.specs.Replay.{Taken, Rerun, Poll}
use Rattle.rt_language.specs.Syntax.{Get, Read, Cat, If, UseCell, WakeInput, Source}
use Rattle.rt_language.specs.Printed.{Prints}
use Rattle.rt_language.specs.Shorthand.{number, words, these, text_slot, memo, resource, component, of_components, write_number, write_text, built, lines}

-- a memo that looks at its second cell where the first one is true
abbrev pub chooses : Source
chooses =
    of_components
    (component
    (UseCell (number 0) ∷ UseCell (number 0) ∷ memo (If (Read 0) (Read 1) (number 0)) ∷ [])
    (text_slot (Read 2))
    ∷ [])
    (write_number 2 5 ∷ write_number 1 1 ∷ write_number 2 6 ∷ write_number 2 6 ∷ [])

-- the row of a memo whose sources change, and which isn't polled for a cell that it didn't look at
abbrev pub MemoRow : Type 0
MemoRow =
    Prints
    chooses
    ((built ++ Poll 1 ∷ Rerun 3 ∷ [])
    ∷ (Taken 1 ∷ [])
    ∷ (Taken 2 ∷ Poll 1 ∷ Rerun 3 ∷ [])
    ∷ (Taken 3 ∷ Poll 1 ∷ Rerun 3 ∷ [])
    ∷ (Taken 4 ∷ Poll 1 ∷ [])
    ∷ [])
    (lines
    (codes "append #0 \"\"#1"
    ∷ codes "text #1 \"0\""
    ∷ codes "text #1 \"5\""
    ∷ codes "text #1 \"6\""
    ∷ codes "report 0 units 2 bodies 5 edits 2 log build made:1 made:2 made:3 poll:1 rerun:3"
    ∷ codes "report 1 units 0 bodies 0 edits 0 log input:1"
    ∷ codes "report 2 units 2 bodies 1 edits 1 log input:2 poll:1 rerun:3"
    ∷ codes "report 3 units 2 bodies 1 edits 1 log input:3 poll:1 rerun:3"
    ∷ codes "report 4 units 1 bodies 0 edits 0 log input:4 poll:1"
    ∷ []))

-- a resource that waits for one step
abbrev pub loads : Source
loads =
    of_components
    (component
    (UseCell (words (codes "a")) ∷ resource (Read 0) 1 (Cat (these (words (codes "got ") ∷ Get 1 ∷ []))) ∷ [])
    (text_slot (Read 1))
    ∷ [])
    (write_text 1 (codes "b") ∷ WakeInput 1 ∷ [])

-- the row of a resource whose key changes while it waits
abbrev pub ResourceRow : Type 0
ResourceRow =
    Prints
    loads
    ((built ++ Poll 1 ∷ []) ∷ (Taken 1 ∷ Poll 1 ∷ []) ∷ (Taken 2 ∷ Poll 1 ∷ Rerun 3 ∷ []) ∷ [])
    (lines
    (codes "append #0 \"\"#1"
    ∷ codes "text #1 \"got b\""
    ∷ codes "report 0 units 1 bodies 4 edits 1 log build made:1 made:2 made:3 poll:1"
    ∷ codes "report 1 units 1 bodies 0 edits 0 log input:1 poll:1"
    ∷ codes "report 2 units 2 bodies 1 edits 1 log input:2 poll:1 rerun:3"
    ∷ []))
