-- Worked rows that tell the definitions from near ones: what a run's start, a removal, a turn and a refusal take and leave.
use Rattle.std.specs.Prelude.{codes, [], ◌∷◌, ◌++◌, pos, Some, None}
use Rattle.rt_model.specs.Causes.{usual}
use Rattle.rt_model.specs.Replay.{Fed, Kept, Poll, Removed, Rerun, Taken}
use Rattle.rt_language.specs.Syntax.{AtRemoval, CallAt, Cat, EventInput, Get, If, Let, ListOf, NoViews, Not, OnResolved, Read, SlotAttribute, SlotView, SuspendOn, SuspenseBoundaryOf, TextOf, TextView, UseCell, UseHook, WakeInput, When, WriteTo, Source}
use Rattle.rt_language.specs.Printed.{Prints, FaultPrints}
use Rattle.rt_language.specs.Shorthand.{builds, component, element_with, lines, number, of_components, on, slot, spawns, steps, text, these, use_alone, use_before, with_actions, with_tasks, words, write_number, write_text}

-- a body that hands its child a cell which it writes: the child reads it twice over
abbrev pub marks_its_child : Source
marks_its_child =
    of_components
    (component (UseCell (number 0) ∷ UseCell (number 0) ∷ WriteTo 1 (Read 0) ∷ []) (use_alone 1 (Read 0 ∷ Get 1 ∷ []))
    ∷ component [] (slot (TextOf (Read 1)))
    ∷ [])
    (write_number 1 1 ∷ [])

-- the row: a mark that is posted when its scope is fed goes at the run's start
abbrev pub PostedMarkRow : Type 0
PostedMarkRow =
    Prints
    marks_its_child
    ((builds 4) ∷ (Taken 1 ∷ Rerun 3 ∷ Fed 4 ∷ []) ∷ [])
    (lines
    (codes "append #0 \"0\"#1"
    ∷ codes "text #1 \"1\""
    ∷ codes "report 0 units 0 bodies 5 edits 1 log build made:1 made:2 made:3 made:4"
    ∷ codes "report 1 units 1 bodies 2 edits 1 log input:1 rerun:3 fed:4"
    ∷ []))

-- a child with two clean-ups, each of which writes to a cell of its own
abbrev pub cleans_two_cells : Source
cleans_two_cells =
    with_actions
    (of_components
    (component
    (UseCell (number 1) ∷ UseCell (words []) ∷ UseCell (words []) ∷ [])
    (SlotView (ListOf (Read 0) (use_alone 1 (Get 1 ∷ Get 2 ∷ []))) (SlotView (TextOf (Read 1)) (slot (TextOf (Read 2)))))
    ∷ component
    (CallAt AtRemoval 0 (these (Get 0 ∷ words (codes "x") ∷ [])) ∷ CallAt AtRemoval 0 (these (Get 1 ∷ words (codes "y") ∷ [])) ∷ [])
    (text (codes "k"))
    ∷ [])
    (write_number 1 0 ∷ []))
    ((WriteTo 0 (Get 1) ∷ []) ∷ [])

-- the row: the commands of all clean-ups of a scope are done
abbrev pub TwoCleanUpsRow : Type 0
TwoCleanUpsRow =
    Prints
    cleans_two_cells
    ((builds 4) ∷ (Taken 1 ∷ Rerun 3 ∷ Removed 4 ∷ Rerun 3 ∷ []) ∷ [])
    (lines
    (codes "append #0 \"k\"#1 \"\"#2 \"\"#3"
    ∷ codes "replace #1 _#4"
    ∷ codes "text #2 \"x\""
    ∷ codes "text #3 \"y\""
    ∷ codes "report 0 units 0 bodies 5 edits 1 log build made:1 made:2 made:3 made:4"
    ∷ codes "report 1 units 2 bodies 2 edits 3 log input:1 rerun:3 removed:4 rerun:3"
    ∷ []))

-- a child that hands its own cell to its parent, which reads it
abbrev pub lends_a_cell : Source
lends_a_cell =
    of_components
    (component
    (UseCell (number 1) ∷ UseCell (number 0) ∷ Let (Read 1) ∷ [])
    (SlotView (ListOf (Read 0) (use_alone 1 (Get 1 ∷ []))) (slot (TextOf (Read 2))))
    ∷ component (UseCell (number 5) ∷ WriteTo 0 (Get 1) ∷ []) (text (codes "k"))
    ∷ [])
    (write_number 1 0 ∷ [])

-- the row: a cell goes with its scope, and its readers are told
abbrev pub LentCellRow : Type 0
LentCellRow =
    Prints
    lends_a_cell
    ((builds 4 ++ Rerun 3 ∷ Kept 4 ∷ []) ∷ (Taken 1 ∷ Rerun 3 ∷ Removed 4 ∷ Rerun 3 ∷ []) ∷ [])
    (lines
    (codes "append #0 \"k\"#1 \"\"#2"
    ∷ codes "text #2 \"5\""
    ∷ codes "replace #1 _#3"
    ∷ codes "text #2 \"\""
    ∷ codes "report 0 units 1 bodies 6 edits 2 log build made:1 made:2 made:3 made:4 rerun:3 kept:4"
    ∷ codes "report 1 units 2 bodies 2 edits 2 log input:1 rerun:3 removed:4 rerun:3"
    ∷ []))

-- a boundary whose child leaves a callback while it shows its children
abbrev pub turns_twice : Source
turns_twice =
    with_tasks
    (with_actions
    (of_components
    (component
    (UseCell (number 0) ∷ UseCell (words []) ∷ [])
    (SlotView (TextOf (Read 1)) (slot (SuspenseBoundaryOf (use_alone 1 (Get 0 ∷ Get 1 ∷ [])) None)))
    ∷ component
    (spawns 0 []
    ∷ When (Not (Read 0)) (steps (OnResolved 0 (these (Get 1 ∷ [])) ∷ []))
    ∷ When (Read 0) (steps (SuspendOn 2 ∷ []))
    ∷ [])
    (text (codes "k"))
    ∷ [])
    (write_number 1 1 ∷ WakeInput 1 ∷ []))
    ((WriteTo 0 (Cat (these (Read 0 ∷ words (codes "!") ∷ []))) ∷ []) ∷ []))
    (([] ∷ [] ∷ []) ∷ [])

-- the row: a callback is taken off before it is called
abbrev pub CallbackOnceRow : Type 0
CallbackOnceRow =
    Prints
    turns_twice
    ((builds 5 ++ Rerun 3 ∷ Kept 4 ∷ Poll 1 ∷ [])
    ∷ (Taken 1 ∷ Rerun 5 ∷ Rerun 4 ∷ Kept 5 ∷ [])
    ∷ (Taken 2 ∷ Poll 1 ∷ Rerun 4 ∷ Kept 5 ∷ [])
    ∷ [])
    (lines
    (codes "append #0 \"\"#1 \"k\"#2"
    ∷ codes "text #1 \"!\""
    ∷ codes "replace #2 _#3"
    ∷ codes "replace #3 \"k\"#2"
    ∷ codes "report 0 units 2 bodies 7 edits 2 log build made:1 made:2 made:3 made:4 made:5 rerun:3 kept:4 poll:1"
    ∷ codes "report 1 units 2 bodies 2 edits 1 log input:1 rerun:5 rerun:4 kept:5"
    ∷ codes "report 2 units 2 bodies 1 edits 1 log input:2 poll:1 rerun:4 kept:5"
    ∷ []))

-- a child that makes a leaf once a cell is written
abbrev pub grows_too_deep : Source
grows_too_deep =
    of_components
    (component
    (UseCell (number 0) ∷ UseCell (number 0) ∷ WriteTo 1 (Read 0) ∷ [])
    (SlotView (TextOf (Read 0)) (use_alone 1 (Get 1 ∷ [])))
    ∷ component [] (SlotView (TextOf (Read 0)) (slot (ListOf (Read 0) (use_alone 2 []))))
    ∷ component [] (text (codes "l"))
    ∷ [])
    (write_number 1 1 ∷ [])

-- the row: the edits of a finished unit are taken before a make that is too deep
abbrev pub FinishedThenDeepRow : Type 0
FinishedThenDeepRow =
    FaultPrints
    (record usual { height = 4 })
    grows_too_deep
    ((builds 4) ∷ [])
    (Taken 1 ∷ Rerun 3 ∷ Kept 4 ∷ Rerun 4 ∷ [])
    (lines
    (codes "append #0 \"0\"#1 \"0\"#2 _#3"
    ∷ codes "text #1 \"1\""
    ∷ codes "text #2 \"1\""
    ∷ codes "report 0 units 0 bodies 5 edits 1 log build made:1 made:2 made:3 made:4"
    ∷ codes "fault 4 TooDeep 5"
    ∷ []))

-- a leaf whose hook changes its kind once a cell is written
abbrev pub changes_a_hook : Source
changes_a_hook =
    of_components
    (component
    (UseCell (number 0) ∷ UseCell (number 0) ∷ WriteTo 1 (Read 0) ∷ [])
    (SlotView (TextOf (Read 0)) (use_alone 1 (Get 1 ∷ [])))
    ∷ component [] (SlotView (TextOf (Read 0)) (use_alone 2 (Read 0 ∷ [])))
    ∷ component (UseHook (If (Get 0) (number 1) (words (codes "t"))) ∷ []) (text (codes "l"))
    ∷ [])
    (write_number 1 1 ∷ [])

-- the row: the edits of a finished unit are taken before a fault in a child
abbrev pub FinishedThenHookRow : Type 0
FinishedThenHookRow =
    FaultPrints
    usual
    changes_a_hook
    ((builds 5) ∷ [])
    (Taken 1 ∷ Rerun 3 ∷ Kept 4 ∷ Rerun 4 ∷ Fed 5 ∷ [])
    (lines
    (codes "append #0 \"0\"#1 \"0\"#2 \"l\"#3"
    ∷ codes "text #1 \"1\""
    ∷ codes "text #2 \"1\""
    ∷ codes "report 0 units 0 bodies 6 edits 1 log build made:1 made:2 made:3 made:4 made:5"
    ∷ codes "fault 6 HookChanged 5 0 2 1"
    ∷ []))

-- attributes of elements behind others and inside of others
abbrev pub dresses_inner : Source
dresses_inner =
    of_components
    (component
    (UseCell (words (codes "0")) ∷ [])
    (TextView
    (codes "s")
    (element_with
    (codes "a")
    (SlotAttribute (codes "w") (Read 0) ∷ [])
    (TextView (codes "u") (element_with (codes "b") (SlotAttribute (codes "x") (Read 0) ∷ []) NoViews NoViews))
    (SlotView (TextOf (Read 0)) (element_with (codes "d") (SlotAttribute (codes "y") (Read 0) ∷ []) NoViews NoViews))))
    ∷ [])
    (write_text 1 (codes "1") ∷ [])

-- the row: the attributes of all elements of a block come before its node slots
abbrev pub InnerAttributesRow : Type 0
InnerAttributesRow =
    Prints
    dresses_inner
    ((builds 3) ∷ (Taken 1 ∷ Rerun 3 ∷ []) ∷ [])
    (lines
    (codes "append #0 \"s\"#1 (a#2 w=\"0\" \"u\"#3 (b#4 x=\"0\")) \"0\"#5 (d#6 y=\"0\")"
    ∷ codes "attr #2 w=\"1\""
    ∷ codes "attr #4 x=\"1\""
    ∷ codes "attr #6 y=\"1\""
    ∷ codes "text #5 \"1\""
    ∷ codes "report 0 units 0 bodies 4 edits 1 log build made:1 made:2 made:3"
    ∷ codes "report 1 units 1 bodies 1 edits 4 log input:1 rerun:3"
    ∷ []))

-- a unit that feeds a child, keeps another and marks that one
abbrev pub spends_one_unit : Source
spends_one_unit =
    of_components
    (component
    (UseCell (number 0) ∷ UseCell (number 0) ∷ WriteTo 1 (Read 0) ∷ [])
    (SlotView (TextOf (Read 0)) (use_before 1 (Read 0 ∷ []) (use_alone 2 (Get 1 ∷ []))))
    ∷ component [] (slot (TextOf (Get 0)))
    ∷ component [] (slot (TextOf (Read 0)))
    ∷ [])
    (write_number 1 1 ∷ [])

-- the row: units are spent only where the agenda of a unit is done
abbrev pub SpentAtTheEndRow : Type 0
SpentAtTheEndRow =
    FaultPrints
    (record usual { units = 1 })
    spends_one_unit
    ((builds 5) ∷ [])
    (Taken 1 ∷ Rerun 3 ∷ Fed 4 ∷ Kept 5 ∷ [])
    (lines
    (codes "append #0 \"0\"#1 \"0\"#2 \"0\"#3"
    ∷ codes "text #1 \"1\""
    ∷ codes "text #2 \"1\""
    ∷ codes "report 0 units 0 bodies 6 edits 1 log build made:1 made:2 made:3 made:4 made:5"
    ∷ codes "fault 3 OutOfTurns 1"
    ∷ []))

-- an element that listens to input
abbrev pub hears_input : Source
hears_input =
    with_actions
    (of_components
    (component
    (UseCell (number 0) ∷ [])
    (element_with (codes "b") (on (codes "oninput") 0 (Get 0 ∷ []) ∷ []) (slot (TextOf (Read 0))) NoViews)
    ∷ [])
    (EventInput (codes "click") 1 None (Some (pos 0)) ∷ []))
    ((WriteTo 0 (number 1) ∷ []) ∷ [])

-- the row: an event that doesn't bubble calls no listener of another name
abbrev pub OtherNameRow : Type 0
OtherNameRow =
    Prints
    hears_input
    ((builds 3) ∷ (Taken 1 ∷ []) ∷ [])
    (lines
    (codes "append #0 (b#1 @oninput \"0\"#2)"
    ∷ codes "report 0 units 0 bodies 4 edits 1 log build made:1 made:2 made:3"
    ∷ codes "report 1 units 0 bodies 0 edits 0 log input:1"
    ∷ []))
