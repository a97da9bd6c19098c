-- Worked rows of the order of work, of tasks that pause, and of what goes with a scope.
use Rattle.std.specs.Prelude.{codes, [], ◌∷◌, ◌++◌, None, Some}
use Rattle.rt_model.specs.Causes.{usual}
use Rattle.rt_model.specs.Replay.{Taken, Heard, Rerun, Poll, Kept, Removed}
use Rattle.rt_language.specs.Syntax.{ActOn, AtRemoval, CallAt, Cat, Client, ElementView, Forever, Forget, Generation, Get, IsAbsent, Less, ListOf, ListenerAttribute, NoViews, Pause, Read, Resume, SlotView, SpawnTask, Stay, SuspendOn, SuspenseBoundaryOf, TextOf, UseCell, WakeInput, When, WriteTo, Source}
use Rattle.rt_language.specs.Printed.{Prints, PrintsWithin}
use Rattle.rt_language.specs.Shorthand.{number, words, these, steps, slot, text_slot, text, handed, use_before, use_alone, component, of_components, with_actions, with_tasks, write_number, event, builds, built, lines}

-- an action that writes first what the later scope reads
abbrev pub writes_to_the_later_first : Source
writes_to_the_later_first =
    with_actions
    (of_components
    (component (UseCell (number 0) ∷ UseCell (number 0) ∷ []) (ElementView (codes "b") None (ListenerAttribute (codes "onclick") 0
    (these ((Get 0) ∷ (Get 1) ∷ [])) ∷ []) NoViews (use_before 1 ((Get 1) ∷ []) (use_alone 1 ((Get 0) ∷ []))))
    ∷ component [] (text_slot (Read 0))
    ∷ [])
    (event (codes "click") 1 ∷ []))
    ((WriteTo 0 (number 1) ∷ WriteTo 1 (number 2) ∷ []) ∷ [])

-- the row of two scopes of one height
abbrev pub OrderRow : Type 0
OrderRow =
    Prints writes_to_the_later_first ((builds 5) ∷ (Taken 1 ∷ Heard 3 ∷ Rerun 4 ∷ Rerun 5 ∷ []) ∷ [])
    (lines
    (codes "append #0 (b#1 @onclick) \"0\"#2 \"0\"#3"
    ∷ codes "text #2 \"2\""
    ∷ codes "text #3 \"1\""
    ∷ codes "report 0 units 0 bodies 6 edits 1 log build made:1 made:2 made:3 made:4 made:5"
    ∷ codes "report 1 units 2 bodies 2 edits 2 log input:1 heard:3 rerun:4 rerun:5"
    ∷ []))

-- an action that drops the cell that its scope reads
abbrev pub forgets_its_cell : Source
forgets_its_cell =
    with_actions
    (of_components
    (component (UseCell (number 1) ∷ []) (ElementView (codes "b") None (ListenerAttribute (codes "onclick") 0 (these ((Get 0) ∷ [])) ∷
    []) NoViews (SlotView (TextOf (Read 0)) (text_slot (IsAbsent (Read 0)))))
    ∷ [])
    (event (codes "click") 1 ∷ write_number 1 5 ∷ event (codes "click") 1 ∷ []))
    ((Forget 0 ∷ []) ∷ [])

-- the row of a dropped cell
abbrev pub ForgetRow : Type 0
ForgetRow =
    Prints forgets_its_cell (built ∷ (Taken 1 ∷ Heard 3 ∷ Rerun 3 ∷ []) ∷ (Taken 2 ∷ []) ∷ (Taken 3 ∷ Heard 3 ∷ []) ∷ [])
    (lines
    (codes "append #0 (b#1 @onclick) \"1\"#2 \"0\"#3"
    ∷ codes "text #2 \"\""
    ∷ codes "text #3 \"1\""
    ∷ codes "report 0 units 0 bodies 4 edits 1 log build made:1 made:2 made:3"
    ∷ codes "report 1 units 1 bodies 1 edits 2 log input:1 heard:3 rerun:3"
    ∷ codes "report 2 units 0 bodies 0 edits 0 log input:2"
    ∷ codes "report 3 units 0 bodies 0 edits 0 log input:3 heard:3"
    ∷ []))

-- listeners that pause and resume a task
abbrev pub pauses_and_resumes : Source
pauses_and_resumes =
    with_tasks
    (with_actions
    (of_components
    (component (SpawnTask 0 (these []) Client ∷ []) (ElementView (codes "b") None (ListenerAttribute (codes "onclick") 0 (these ((Get
    0) ∷ [])) ∷ []) NoViews (ElementView (codes "i") None (ListenerAttribute (codes "onclick") 1 (these ((Get 0) ∷ [])) ∷ []) NoViews
    NoViews))
    ∷ [])
    (event (codes "click") 2 ∷ event (codes "click") 1 ∷ WakeInput 1 ∷ event (codes "click") 2 ∷ WakeInput 1 ∷ []))
    ((ActOn Pause 0 ∷ []) ∷ (ActOn Resume 0 ∷ []) ∷ []))
    (((Stay ∷ []) ∷ []) ∷ [])

-- the row of a task that pauses
abbrev pub PauseRow : Type 0
PauseRow =
    Prints pauses_and_resumes ((built ++ Poll 1 ∷ []) ∷ (Taken 1 ∷ Heard 3 ∷ []) ∷ (Taken 2 ∷ Heard 3 ∷ []) ∷ (Taken 3 ∷ []) ∷ (Taken 4
    ∷ Heard 3 ∷ Poll 1 ∷ []) ∷ (Taken 5 ∷ Poll 1 ∷ []) ∷ [])
    (lines
    (codes "append #0 (b#1 @onclick) (i#2 @onclick)"
    ∷ codes "report 0 units 1 bodies 4 edits 1 log build made:1 made:2 made:3 poll:1"
    ∷ codes "report 1 units 0 bodies 0 edits 0 log input:1 heard:3"
    ∷ codes "report 2 units 0 bodies 0 edits 0 log input:2 heard:3"
    ∷ codes "report 3 units 0 bodies 0 edits 0 log input:3"
    ∷ codes "report 4 units 1 bodies 0 edits 0 log input:4 heard:3 poll:1"
    ∷ codes "report 5 units 1 bodies 0 edits 0 log input:5 poll:1"
    ∷ []))

-- a child with a cell, three tasks and two clean-ups
abbrev pub owns_all_kinds : Source
owns_all_kinds =
    with_tasks
    (with_actions
    (of_components
    (component (UseCell (number 1) ∷ UseCell (words []) ∷ []) (SlotView (ListOf (Read 0) (use_alone 1 ((Get 1) ∷ []))) (text_slot (Read
    1)))
    ∷ component (UseCell (number 1) ∷ SpawnTask 0 (these []) Client ∷ SpawnTask 0 (these []) Client ∷ SpawnTask 0 (these []) Forever ∷
    CallAt AtRemoval 0 (these ((Get 0) ∷ (words (codes "x")) ∷ [])) ∷ CallAt AtRemoval 0 (these ((Get 0) ∷ (words (codes "y")) ∷ [])) ∷
    []) (text_slot (Read 1))
    ∷ [])
    (write_number 1 0 ∷ WakeInput 1 ∷ WakeInput 2 ∷ WakeInput 3 ∷ write_number 3 7 ∷ []))
    ((WriteTo 0 (Cat (these ((Read 0) ∷ (Get 1) ∷ []))) ∷ []) ∷ []))
    (((Stay ∷ []) ∷ []) ∷ [])

-- the row of what goes with a scope
abbrev pub GoneRow : Type 0
GoneRow =
    Prints owns_all_kinds ((builds 4 ++ Poll 3 ∷ Poll 1 ∷ Poll 2 ∷ []) ∷ (Taken 1 ∷ Rerun 3 ∷ Removed 4 ∷ Rerun 3 ∷ []) ∷ (Taken 2 ∷
    []) ∷ (Taken 3 ∷ []) ∷ (Taken 4 ∷ Poll 3 ∷ []) ∷ (Taken 5 ∷ []) ∷ [])
    (lines
    (codes "append #0 \"1\"#1 \"\"#2"
    ∷ codes "replace #1 _#3"
    ∷ codes "text #2 \"x\""
    ∷ codes "report 0 units 3 bodies 5 edits 1 log build made:1 made:2 made:3 made:4 poll:3 poll:1 poll:2"
    ∷ codes "report 1 units 2 bodies 2 edits 2 log input:1 rerun:3 removed:4 rerun:3"
    ∷ codes "report 2 units 0 bodies 0 edits 0 log input:2"
    ∷ codes "report 3 units 0 bodies 0 edits 0 log input:3"
    ∷ codes "report 4 units 1 bodies 0 edits 0 log input:4 poll:3"
    ∷ codes "report 5 units 0 bodies 0 edits 0 log input:5"
    ∷ []))

-- a boundary that is held, in a list that empties
abbrev pub drops_a_held_boundary : Source
drops_a_held_boundary =
    with_tasks
    (of_components
    (component (UseCell (number 1) ∷ []) (slot (ListOf (Read 0) (slot (SuspenseBoundaryOf (use_before 2 [] (use_alone 4 [])) (Some
    (handed 1 []))))))
    ∷ component (UseCell (number 0) ∷ []) (SlotView (TextOf Generation) (SlotView (TextOf (Read 0)) (use_alone 3 [])))
    ∷ component [] (text (codes "k"))
    ∷ component [] (text (codes "l"))
    ∷ component (SpawnTask 0 (these []) Client ∷ SuspendOn 0 ∷ []) NoViews
    ∷ [])
    (write_number 2 1 ∷ write_number 1 0 ∷ WakeInput 1 ∷ []))
    (((Stay ∷ []) ∷ []) ∷ [])

-- the row of a held boundary that goes
abbrev pub HeldGoesRow : Type 0
HeldGoesRow =
    Prints drops_a_held_boundary ((builds 7 ++ Rerun 4 ∷ Kept 7 ∷ Kept 5 ∷ Kept 6 ∷ Poll 1 ∷ []) ∷ (Taken 1 ∷ Rerun 4 ∷ Kept 7 ∷ Kept 5
    ∷ Kept 6 ∷ []) ∷ (Taken 2 ∷ Rerun 3 ∷ Removed 7 ∷ Removed 5 ∷ Removed 6 ∷ Removed 4 ∷ []) ∷ (Taken 3 ∷ []) ∷ [])
    (lines
    (codes "append #0 \"0\"#3 \"0\"#4 \"l\"#5"
    ∷ codes "text #3 \"1\""
    ∷ codes "text #3 \"2\""
    ∷ codes "text #4 \"1\""
    ∷ codes "replace #3 _#6"
    ∷ codes "remove #4"
    ∷ codes "remove #5"
    ∷ codes
    "report 0 units 2 bodies 9 edits 2 log build made:1 made:2 made:3 made:4 made:5 made:6 made:7 rerun:4 kept:7 kept:5 kept:6 poll:1"
    ∷ codes "report 1 units 1 bodies 1 edits 2 log input:1 rerun:4 kept:7 kept:5 kept:6"
    ∷ codes "report 2 units 1 bodies 1 edits 3 log input:2 rerun:3 removed:7 removed:5 removed:6 removed:4"
    ∷ codes "report 3 units 0 bodies 0 edits 0 log input:3"
    ∷ []))

-- a body that writes what it reads, once an input
abbrev pub two_units_an_input : Source
two_units_an_input =
    of_components
    (component (UseCell (number 0) ∷ UseCell (number 0) ∷ When (Less (Read 1) (Read 0)) (steps (WriteTo 1 (Read 0) ∷ [])) ∷ [])
    (text_slot (Read 1))
    ∷ [])
    (write_number 1 1 ∷ write_number 1 2 ∷ [])

-- the row of two inputs within two units each
abbrev pub AnewRow : Type 0
AnewRow =
    PrintsWithin (record usual { units = 2 }) two_units_an_input (built ∷ (Taken 1 ∷ Rerun 3 ∷ Rerun 3 ∷ []) ∷ (Taken 2 ∷ Rerun 3 ∷
    Rerun 3 ∷ []) ∷ [])
    (lines
    (codes "append #0 \"0\"#1"
    ∷ codes "text #1 \"1\""
    ∷ codes "text #1 \"2\""
    ∷ codes "report 0 units 0 bodies 4 edits 1 log build made:1 made:2 made:3"
    ∷ codes "report 1 units 2 bodies 2 edits 1 log input:1 rerun:3 rerun:3"
    ∷ codes "report 2 units 2 bodies 2 edits 1 log input:2 rerun:3 rerun:3"
    ∷ []))

-- a body that spawns a task without steps
abbrev pub spawns_no_steps : Source
spawns_no_steps =
    with_tasks
    (of_components
    (component (SpawnTask 0 (these []) Client ∷ []) (text (codes "x"))
    ∷ [])
    (WakeInput 1 ∷ []))
    ([] ∷ [])

-- the row of a task without steps
abbrev pub EndlessRow : Type 0
EndlessRow =
    Prints spawns_no_steps ((built ++ Poll 1 ∷ []) ∷ (Taken 1 ∷ []) ∷ [])
    (lines
    (codes "append #0 \"x\"#1"
    ∷ codes "report 0 units 1 bodies 4 edits 1 log build made:1 made:2 made:3 poll:1"
    ∷ codes "report 1 units 0 bodies 0 edits 0 log input:1"
    ∷ []))
