-- Worked rows of suspense boundaries.
use Rattle.std.specs.Prelude.{List, [], ◌∷◌, ◌++◌, Some, None, codes}
use Rattle.rt_model.specs.Replay.{Taken, Rerun, Poll, Fed, Kept, Removed}
use Rattle.rt_language.specs.Syntax.{Get, Read, Equal, Statement, UseCell, When, WriteTo, SuspendOn, View, NoViews, SlotView, ViewSlot, PickOf, SuspenseBoundaryOf, ComponentSource, InputSource, WakeInput, Source}
use Rattle.rt_language.specs.Printed.{Prints}
use Rattle.rt_language.specs.Shorthand.{number, steps, slot, text, handed, use_before, use_alone, spawns, component, of_components, with_tasks, write_number, builds, lines}

-- a boundary with a fallback
abbrev pub held_apart : View → ViewSlot
held_apart kids = SuspenseBoundaryOf kids (Some (handed 2 []))

-- a body that suspends on the task in the variable behind its cell, while the cell is 0
abbrev pub unless_written : Statement
unless_written = When (Equal (Read 0) (number 0)) (steps (SuspendOn 1 ∷ []))

-- a component that fetches by a task of its own
abbrev pub article : ComponentSource
article = component (UseCell (number 0) ∷ spawns 0 (Get 0 ∷ []) ∷ unless_written ∷ []) (text (codes "Article"))

-- what shows while it fetches
abbrev pub loading : ComponentSource
loading = component [] (text (codes "Loading..."))

-- a task that writes at its second poll
abbrev pub fetching : List (List (List Statement))
fetching = ([] ∷ (WriteTo 0 (number 1) ∷ []) ∷ []) ∷ []

-- articles under boundaries
abbrev pub fetches : View → List InputSource → Source
fetches view inputs = with_tasks (of_components (component [] view ∷ article ∷ loading ∷ []) inputs) fetching

-- the row of one article
abbrev pub SuspenseRow : Type 0
SuspenseRow =
    Prints
    (fetches (slot (held_apart (use_alone 1 []))) (WakeInput 1 ∷ []))
    ((builds 5 ++ Rerun 4 ∷ Kept 5 ∷ Poll 1 ∷ []) ∷ (Taken 1 ∷ Poll 1 ∷ Rerun 4 ∷ Kept 5 ∷ Rerun 5 ∷ []) ∷ [])
    (lines
    (codes "append #0 \"Loading...\"#2"
    ∷ codes "replace #2 _#1"
    ∷ codes "replace #1 \"Article\"#3"
    ∷ codes "report 0 units 2 bodies 7 edits 1 log build made:1 made:2 made:3 made:4 made:5 rerun:4 kept:5 poll:1"
    ∷ codes "report 1 units 3 bodies 2 edits 2 log input:1 poll:1 rerun:4 kept:5 rerun:5"
    ∷ []))

-- a task of the root on which the children of two boundaries suspend
abbrev pub holds_both : Source
holds_both =
    with_tasks
    (of_components
    (component
    (UseCell (number 0) ∷ spawns 0 (Get 0 ∷ []) ∷ [])
    (SlotView (held_apart (use_alone 1 (Get 0 ∷ Get 1 ∷ []))) (slot (held_apart (use_alone 1 (Get 0 ∷ Get 1 ∷ [])))))
    ∷ component (unless_written ∷ []) (text (codes "ok"))
    ∷ loading
    ∷ [])
    (WakeInput 1 ∷ []))
    fetching

-- the row of one task and two boundaries
abbrev pub TwoBoundariesRow : Type 0
TwoBoundariesRow =
    Prints
    holds_both
    ((builds 7 ++ Poll 1 ∷ Rerun 4 ∷ Kept 5 ∷ Rerun 6 ∷ Kept 7 ∷ [])
    ∷ (Taken 1 ∷ Poll 1 ∷ Rerun 4 ∷ Kept 5 ∷ Rerun 6 ∷ Kept 7 ∷ Rerun 5 ∷ Rerun 7 ∷ [])
    ∷ [])
    (lines
    (codes "append #0 \"Loading...\"#2 \"Loading...\"#4"
    ∷ codes "replace #2 _#1"
    ∷ codes "replace #4 _#3"
    ∷ codes "replace #1 \"ok\"#5"
    ∷ codes "replace #3 \"ok\"#6"
    ∷ (codes "report 0 units 3 bodies 10 edits 1 log build made:1 made:2 made:3 made:4 made:5 made:6 made:7"
    ++ codes " poll:1 rerun:4 kept:5 rerun:6 kept:7")
    ∷ codes "report 1 units 5 bodies 4 edits 4 log input:1 poll:1 rerun:4 kept:5 rerun:6 kept:7 rerun:5 rerun:7"
    ∷ []))

-- the row of a boundary inside another one
abbrev pub NestedBoundaryRow : Type 0
NestedBoundaryRow =
    Prints
    (fetches (slot (held_apart (slot (held_apart (use_alone 1 []))))) [])
    ((builds 6 ++ Rerun 5 ∷ Kept 6 ∷ Poll 1 ∷ []) ∷ [])
    (lines
    (codes "append #0 \"Loading...\"#2"
    ∷ codes "report 0 units 2 bodies 8 edits 1 log build made:1 made:2 made:3 made:4 made:5 made:6 rerun:5 kept:6 poll:1"
    ∷ []))

-- the row of two holders
abbrev pub TwoHoldersRow : Type 0
TwoHoldersRow =
    Prints
    (fetches (slot (held_apart (use_before 1 [] (use_alone 1 [])))) (WakeInput 1 ∷ WakeInput 2 ∷ []))
    ((builds 6 ++ Rerun 4 ∷ Kept 5 ∷ Kept 6 ∷ Poll 1 ∷ Poll 2 ∷ [])
    ∷ (Taken 1 ∷ Poll 1 ∷ Rerun 4 ∷ Kept 5 ∷ Kept 6 ∷ Rerun 5 ∷ [])
    ∷ (Taken 2 ∷ Poll 2 ∷ Rerun 4 ∷ Kept 5 ∷ Kept 6 ∷ Rerun 6 ∷ [])
    ∷ [])
    (lines
    (codes "append #0 \"Loading...\"#3"
    ∷ codes "replace #3 \"Article\"#4 _#2"
    ∷ codes "replace #2 \"Article\"#5"
    ∷ codes "report 0 units 3 bodies 8 edits 1 log build made:1 made:2 made:3 made:4 made:5 made:6 rerun:4 kept:5 kept:6 poll:1 poll:2"
    ∷ codes "report 1 units 3 bodies 2 edits 0 log input:1 poll:1 rerun:4 kept:5 kept:6 rerun:5"
    ∷ codes "report 2 units 3 bodies 2 edits 2 log input:2 poll:2 rerun:4 kept:5 kept:6 rerun:6"
    ∷ []))

-- a child that suspends on a task of the root and goes
abbrev pub foreign_task : Source
foreign_task =
    with_tasks
    (of_components
    (component
    (UseCell (number 1) ∷ spawns 0 [] ∷ [])
    (slot (SuspenseBoundaryOf (slot (PickOf (Read 0) (use_alone 1 (Get 1 ∷ [])) (text (codes "gone")))) None))
    ∷ component (SuspendOn 0 ∷ []) NoViews
    ∷ [])
    (write_number 1 0 ∷ WakeInput 1 ∷ []))
    (([] ∷ [] ∷ []) ∷ [])

-- the row of a task that still holds after the suspended child went
abbrev pub ForeignTaskRow : Type 0
ForeignTaskRow =
    Prints
    foreign_task
    ((builds 5 ++ Poll 1 ∷ Rerun 4 ∷ Kept 5 ∷ [])
    ∷ (Taken 1 ∷ Rerun 3 ∷ Fed 4 ∷ Removed 5 ∷ [])
    ∷ (Taken 2 ∷ Poll 1 ∷ Rerun 4 ∷ [])
    ∷ [])
    (lines
    (codes "append #0 _#2"
    ∷ codes "replace #2 \"gone\"#3"
    ∷ codes "report 0 units 2 bodies 7 edits 1 log build made:1 made:2 made:3 made:4 made:5 poll:1 rerun:4 kept:5"
    ∷ codes "report 1 units 1 bodies 2 edits 0 log input:1 rerun:3 fed:4 removed:5"
    ∷ codes "report 2 units 2 bodies 1 edits 1 log input:2 poll:1 rerun:4"
    ∷ []))
