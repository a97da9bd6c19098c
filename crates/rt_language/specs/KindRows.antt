-- Worked rows of what a table of the language says of a single case.
use Rattle.std.specs.Prelude.{negsuc, codes, [], ◌∷◌, ◌++◌, None}
use Rattle.rt_model.specs.Causes.{usual}
use Rattle.rt_model.specs.Replay.{Taken, Heard, Rerun, Poll}
use Rattle.rt_language.specs.Syntax.{Cat, Client, ElementView, Equal, Generation, Get, If, IsAbsent, Let, ListOf, ListenerAttribute, LookUp, MarkScopeOf, Me, NoViews, Not, NumberLiteral, OwnScope, Parse, PickOf, ProvideAs, Read, Say, SlotView, SpawnTask, SuspendOn, TextOf, UseCell, UseHook, WriteTo, Source}
use Rattle.rt_language.specs.Printed.{FaultPrints, Prints}
use Rattle.rt_language.specs.Shorthand.{number, words, these, slot, text_slot, text, use_alone, component, of_components, with_actions, with_tasks, write_number, event, builds, built, lines}

-- a hook that keeps none
abbrev pub keeps_nothing : Source
keeps_nothing =
    with_tasks
    (of_components
    (component (UseCell (number 0) ∷ UseHook (If (Read 0) (number 1) (Parse (words []))) ∷ []) (text (codes "x"))
    ∷ [])
    (write_number 1 1 ∷ []))
    ([] ∷ [])

-- a hook that keeps a cell
abbrev pub keeps_a_cell : Source
keeps_a_cell =
    with_tasks
    (of_components
    (component (UseCell (number 0) ∷ UseHook (If (Read 0) (number 1) (Get 0)) ∷ []) (text (codes "x"))
    ∷ [])
    (write_number 1 1 ∷ []))
    ([] ∷ [])

-- a hook that keeps a task
abbrev pub keeps_a_task : Source
keeps_a_task =
    with_tasks
    (of_components
    (component (UseCell (number 0) ∷ SpawnTask 0 (these []) Client ∷ UseHook (If (Read 0) (number 1) (Get 1)) ∷ []) (text (codes "x"))
    ∷ [])
    (write_number 1 1 ∷ []))
    ([] ∷ [])

-- the rows of hooks whose kind changes
abbrev pub KindRow : Type 0
KindRow =
    (FaultPrints usual keeps_nothing (built ∷ []) (Taken 1 ∷ Rerun 3 ∷ [])
    (lines
    (codes "append #0 \"x\"#1"
    ∷ codes "report 0 units 0 bodies 4 edits 1 log build made:1 made:2 made:3"
    ∷ codes "fault 6 HookChanged 3 1 0 1"
    ∷ [])))
    ×
    (FaultPrints usual keeps_a_cell (built ∷ []) (Taken 1 ∷ Rerun 3 ∷ [])
    (lines
    (codes "append #0 \"x\"#1"
    ∷ codes "report 0 units 0 bodies 4 edits 1 log build made:1 made:2 made:3"
    ∷ codes "fault 6 HookChanged 3 1 3 1"
    ∷ [])))
    ×
    (FaultPrints usual keeps_a_task ((built ++ Poll 1 ∷ []) ∷ []) (Taken 1 ∷ Rerun 3 ∷ [])
    (lines
    (codes "append #0 \"x\"#1"
    ∷ codes "report 0 units 1 bodies 4 edits 1 log build made:1 made:2 made:3 poll:1"
    ∷ codes "fault 6 HookChanged 3 2 4 1"
    ∷ [])))

-- values whose truth, equality or count is out of the ordinary; a suspension on no task and marks of no scope do nothing
abbrev pub odd_cases : Source
odd_cases =
    with_tasks
    (of_components
    (component (UseCell (number 0) ∷ UseCell (number 0) ∷ SpawnTask 0 (these []) Client ∷ SpawnTask 0 (these []) Client ∷ SuspendOn 0 ∷
    MarkScopeOf (Say (NumberLiteral (negsuc 0))) ∷ MarkScopeOf (words (codes "x")) ∷ []) (SlotView (TextOf (Not (Say (NumberLiteral
    (negsuc 0))))) (SlotView (TextOf (Not (Get 0))) (SlotView (TextOf (Not (Get 2))) (SlotView (TextOf (Equal (Get 0) (Get 0)))
    (SlotView (TextOf (Equal (Get 0) (Get 1))) (SlotView (TextOf (Equal (Get 2) (Get 2))) (SlotView (TextOf (Equal (Get 2) (Get 3)))
    (SlotView (TextOf (Equal (Get 0) (Get 2))) (SlotView (TextOf (IsAbsent (Parse (words (codes "-9223372036854775809"))))) (SlotView
    (TextOf (Parse (words (codes "-9223372036854775808")))) (SlotView (ListOf (Say (NumberLiteral (negsuc 0))) (text (codes "n")))
    (SlotView (ListOf (words (codes "2")) (text (codes "n"))) (SlotView (PickOf (number 1) NoViews (text (codes "n"))) (slot (PickOf
    (Say (NumberLiteral (negsuc 0))) (text (codes "p")) (text (codes "n")))))))))))))))))
    ∷ [])
    [])
    ([] ∷ [])

-- the row of odd cases
abbrev pub CaseRow : Type 0
CaseRow =
    Prints odd_cases ((built ++ Poll 1 ∷ Poll 2 ∷ []) ∷ [])
    (lines
    (codes
    "append #0 \"0\"#1 \"1\"#2 \"1\"#3 \"1\"#4 \"0\"#5 \"1\"#6 \"0\"#7 \"0\"#8 \"1\"#9 \"-9223372036854775808\"#10 _#11 _#12 _#13 \"p\"#14"
    ∷ codes "report 0 units 2 bodies 4 edits 1 log build made:1 made:2 made:3 poll:1 poll:2"
    ∷ []))

-- a cell and a task made from what is read
abbrev pub made_from_a_read : Source
made_from_a_read =
    with_tasks
    (of_components
    (component (UseCell (number 1) ∷ UseCell (Read 0) ∷ SpawnTask 0 (these ((Read 0) ∷ [])) Client ∷ []) (text_slot (Read 1))
    ∷ [])
    (write_number 1 2 ∷ write_number 1 3 ∷ []))
    ([] ∷ [])

-- the row of first uses
abbrev pub FirstUseRow : Type 0
FirstUseRow =
    Prints made_from_a_read ((built ++ Poll 1 ∷ []) ∷ (Taken 1 ∷ Rerun 3 ∷ []) ∷ (Taken 2 ∷ []) ∷ [])
    (lines
    (codes "append #0 \"1\"#1"
    ∷ codes "report 0 units 1 bodies 4 edits 1 log build made:1 made:2 made:3 poll:1"
    ∷ codes "report 1 units 1 bodies 1 edits 0 log input:1 rerun:3"
    ∷ codes "report 2 units 0 bodies 0 edits 0 log input:2"
    ∷ []))

-- a hook that keeps what was read, and a write to a number
abbrev pub keeps_what_it_read : Source
keeps_what_it_read =
    of_components
    (component (UseCell (number 1) ∷ UseHook (Read 0) ∷ Let (number 1) ∷ WriteTo 2 (Read 0) ∷ []) (text_slot (Get 1))
    ∷ [])
    (write_number 1 2 ∷ write_number 1 3 ∷ [])

-- the row of a kept value
abbrev pub KeptValueRow : Type 0
KeptValueRow =
    Prints keeps_what_it_read (built ∷ (Taken 1 ∷ Rerun 3 ∷ []) ∷ (Taken 2 ∷ Rerun 3 ∷ []) ∷ [])
    (lines
    (codes "append #0 \"1\"#1"
    ∷ codes "report 0 units 0 bodies 4 edits 1 log build made:1 made:2 made:3"
    ∷ codes "report 1 units 1 bodies 1 edits 0 log input:1 rerun:3"
    ∷ codes "report 2 units 1 bodies 1 edits 0 log input:2 rerun:3"
    ∷ []))

-- a provider of none below one of a text
abbrev pub provides_nothing : Source
provides_nothing =
    of_components
    (component (ProvideAs 0 (words (codes "x")) ∷ []) (use_alone 1 [])
    ∷ component (ProvideAs 0 (Parse (words [])) ∷ []) (use_alone 2 [])
    ∷ component [] (text_slot (LookUp 0))
    ∷ [])
    []

-- the row of a provided none
abbrev pub AbsentRow : Type 0
AbsentRow =
    Prints provides_nothing ((builds 5) ∷ [])
    (lines
    (codes "append #0 \"\"#1"
    ∷ codes "report 0 units 0 bodies 6 edits 1 log build made:1 made:2 made:3 made:4 made:5"
    ∷ []))

-- an action that writes what it knows of itself
abbrev pub tells_its_scope : Source
tells_its_scope =
    with_actions
    (of_components
    (component (UseCell (number 0) ∷ []) (ElementView (codes "b") None (ListenerAttribute (codes "onclick") 0 (these ((Get 0) ∷ [])) ∷
    []) NoViews (SlotView (TextOf (Read 0)) (text_slot Generation)))
    ∷ [])
    (event (codes "click") 1 ∷ []))
    ((WriteTo 0 (Cat (these ((words (codes "g")) ∷ Generation ∷ (words (codes "s")) ∷ OwnScope ∷ Me ∷ []))) ∷ []) ∷ [])

-- the row of what an action knows
abbrev pub ActionRow : Type 0
ActionRow =
    Prints tells_its_scope (built ∷ (Taken 1 ∷ Heard 3 ∷ Rerun 3 ∷ []) ∷ [])
    (lines
    (codes "append #0 (b#1 @onclick) \"0\"#2 \"0\"#3"
    ∷ codes "text #2 \"gs3\""
    ∷ codes "text #3 \"1\""
    ∷ codes "report 0 units 0 bodies 4 edits 1 log build made:1 made:2 made:3"
    ∷ codes "report 1 units 1 bodies 1 edits 2 log input:1 heard:3 rerun:3"
    ∷ []))
