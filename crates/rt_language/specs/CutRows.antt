-- Worked rows of units that a fault cuts: which of their edits are taken.
use Rattle.std.specs.Prelude.{codes, [], ◌∷◌, ◌++◌, None}
use Rattle.rt_model.specs.Causes.{usual}
use Rattle.rt_model.specs.Replay.{Taken, Rerun, Poll, Fed, Kept}
use Rattle.rt_language.specs.Syntax.{Client, Equal, Get, If, ListOf, NoViews, PickOf, Read, SlotView, SpawnTask, Stay, SuspendOn, SuspenseBoundaryOf, TextOf, UseCell, UseHook, Source}
use Rattle.rt_language.specs.Printed.{FaultPrints}
use Rattle.rt_language.specs.Shorthand.{number, words, these, slot, text_slot, text, use_before, use_alone, component, of_components, with_tasks, write_number, builds, lines}

-- a fed child asks for another hook, between two texts of its parent
abbrev pub fed_a_changed_hook : Source
fed_a_changed_hook =
    of_components
    (component (UseCell (number 0) ∷ []) (SlotView (TextOf (Read 0)) (use_before 1 ((Read 0) ∷ []) (text_slot (Read 0))))
    ∷ component (UseHook (If (Get 0) (number 1) (words (codes "t"))) ∷ []) (text_slot (Get 0))
    ∷ [])
    (write_number 1 1 ∷ [])

-- a fed child makes an item that is too deep, after one that stays
abbrev pub fed_a_deep_item : Source
fed_a_deep_item =
    of_components
    (component (UseCell (number 1) ∷ []) (SlotView (TextOf (Read 0)) (use_before 1 ((Read 0) ∷ []) (text_slot (Read 0))))
    ∷ component [] (SlotView (TextOf (Get 0)) (SlotView (ListOf (Get 0) (slot (PickOf (Equal (Get 1) (number 1)) (use_alone 2 [])
    NoViews))) (text_slot (Get 0))))
    ∷ component [] (text (codes "leaf"))
    ∷ [])
    (write_number 1 2 ∷ [])

-- a fed child makes its first item, which is too deep
abbrev pub fed_a_first_deep_item : Source
fed_a_first_deep_item =
    of_components
    (component (UseCell (number 0) ∷ []) (SlotView (TextOf (Read 0)) (use_before 1 ((Read 0) ∷ []) (text_slot (Read 0))))
    ∷ component [] (SlotView (TextOf (Get 0)) (SlotView (ListOf (Get 0) (use_alone 2 [])) (text_slot (Get 0))))
    ∷ component [] (text (codes "leaf"))
    ∷ [])
    (write_number 1 1 ∷ [])

-- the first of these children, hidden by a boundary that is held
abbrev pub fed_while_hidden : Source
fed_while_hidden =
    with_tasks
    (of_components
    (component (UseCell (number 0) ∷ []) (SlotView (TextOf (Read 0)) (SlotView (SuspenseBoundaryOf (use_before 1 ((Read 0) ∷ [])
    (use_alone 2 [])) None) (text_slot (Read 0))))
    ∷ component (UseHook (If (Get 0) (number 1) (words (codes "t"))) ∷ []) (text_slot (Get 0))
    ∷ component (SpawnTask 0 (these []) Client ∷ SuspendOn 0 ∷ []) NoViews
    ∷ [])
    (write_number 1 1 ∷ []))
    (((Stay ∷ []) ∷ []) ∷ [])

-- the rows of units that are cut
abbrev pub CutRow : Type 0
CutRow =
    (FaultPrints usual fed_a_changed_hook ((builds 4) ∷ []) (Taken 1 ∷ Rerun 3 ∷ Fed 4 ∷ [])
    (lines
    (codes "append #0 \"0\"#1 \"0\"#2 \"0\"#3"
    ∷ codes "text #1 \"1\""
    ∷ codes "report 0 units 0 bodies 5 edits 1 log build made:1 made:2 made:3 made:4"
    ∷ codes "fault 6 HookChanged 4 0 2 1"
    ∷ [])))
    ×
    (FaultPrints (record usual { height = 4 }) fed_a_deep_item ((builds 4) ∷ []) (Taken 1 ∷ Rerun 3 ∷ Fed 4 ∷ [])
    (lines
    (codes "append #0 \"1\"#1 \"1\"#2 _#3 \"1\"#4 \"1\"#5"
    ∷ codes "text #1 \"2\""
    ∷ codes "text #2 \"2\""
    ∷ codes "report 0 units 0 bodies 5 edits 1 log build made:1 made:2 made:3 made:4"
    ∷ codes "fault 4 TooDeep 5"
    ∷ [])))
    ×
    (FaultPrints (record usual { height = 4 }) fed_a_first_deep_item ((builds 4) ∷ []) (Taken 1 ∷ Rerun 3 ∷ Fed 4 ∷ [])
    (lines
    (codes "append #0 \"0\"#1 \"0\"#2 _#3 \"0\"#4 \"0\"#5"
    ∷ codes "text #1 \"1\""
    ∷ codes "text #2 \"1\""
    ∷ codes "report 0 units 0 bodies 5 edits 1 log build made:1 made:2 made:3 made:4"
    ∷ codes "fault 4 TooDeep 5"
    ∷ [])))
    ×
    (FaultPrints usual fed_while_hidden ((builds 6 ++ Rerun 4 ∷ Kept 5 ∷ Kept 6 ∷ Poll 1 ∷ []) ∷ []) (Taken 1 ∷ Rerun 3 ∷ Fed 4 ∷ Fed 5
    ∷ [])
    (lines
    (codes "append #0 \"0\"#1 _#4 \"0\"#5"
    ∷ codes "text #1 \"1\""
    ∷ codes "report 0 units 2 bodies 8 edits 1 log build made:1 made:2 made:3 made:4 made:5 made:6 rerun:4 kept:5 kept:6 poll:1"
    ∷ codes "fault 6 HookChanged 5 0 2 1"
    ∷ [])))
