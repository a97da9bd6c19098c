-- Worked rows of what actions and steps do: tasks that stay, pause and resume, cells that are dropped, errors that
-- are thrown, contexts of an action.
use Rattle.std.specs.Prelude.{List, [], ◌∷◌, ◌++◌, codes}
use Rattle.rt_model.specs.Replay.{Taken, Heard, Rerun, Poll, Effects, Removed, Kept}
use Rattle.rt_language.specs.Syntax.{Get, Read, Cat, Add, Less, IsAbsent, LookUp, Me, AtRemoval, AfterRender, Forever, Statement, UseCell, SpawnTask, CallAt, EffectOf, When, ProvideAs, WriteTo, Forget, ActOn, Pause, Resume, MarkScopeOf, ThrowText, Stay, NoViews, SlotView, TextOf, PickOf, WakeInput, Source}
use Rattle.rt_language.specs.Printed.{Prints}
use Rattle.rt_language.specs.Shorthand.{number, words, these, steps, slot, text_slot, element_with, text, use_alone, spawns, component, of_components, with_actions, with_tasks, on, write_number, event, built, builds, built_line, lines}

-- a task that raises a cell and stays until it is 2, then throws; an effect that pauses it; listeners that resume it and drop the cell
abbrev pub stays_and_throws : Source
stays_and_throws =
    with_tasks
    (with_actions
    (of_components
    (component
    (UseCell (number 0) ∷ spawns 0 (Get 0 ∷ []) ∷ EffectOf 1 (these (Get 1 ∷ [])) ∷ [])
    (SlotView
    (TextOf (IsAbsent (Read 0)))
    (element_with
    (codes "b")
    (on (codes "onclick") 0 (Get 1 ∷ words (codes "r") ∷ []) ∷ on (codes "onkey") 2 (Get 0 ∷ []) ∷ [])
    NoViews
    NoViews))
    ∷ [])
    (WakeInput 1 ∷ event (codes "click") 2 ∷ event (codes "click") 2 ∷ WakeInput 1 ∷ event (codes "key") 2 ∷ []))
    ((ActOn Resume 0 ∷ []) ∷ (ActOn Pause 0 ∷ []) ∷ (Forget 0 ∷ Forget 0 ∷ ThrowText (words (codes "x")) ∷ []) ∷ []))
    (((When (Less (Read 0) (number 2)) (steps (WriteTo 0 (Add (Read 0) (number 1)) ∷ Stay ∷ [])) ∷ [])
    ∷ (MarkScopeOf (number 3) ∷ ThrowText (words (codes "lost")) ∷ [])
    ∷ [])
    ∷ [])

-- the row of that task
abbrev pub StayRow : Type 0
StayRow =
    Prints
    stays_and_throws
    ((built ++ Poll 1 ∷ Rerun 3 ∷ Effects 3 ∷ [])
    ∷ (Taken 1 ∷ [])
    ∷ (Taken 2 ∷ Heard 3 ∷ Poll 1 ∷ Rerun 3 ∷ Effects 3 ∷ [])
    ∷ (Taken 3 ∷ Heard 3 ∷ Poll 1 ∷ [])
    ∷ (Taken 4 ∷ Poll 1 ∷ Rerun 2 ∷ Removed 3 ∷ [])
    ∷ (Taken 5 ∷ [])
    ∷ [])
    (lines
    (codes "append #0 \"0\"#1 (b#2 @onclick @onkey)"
    ∷ codes "replace #1 (div#3 style:color=\"red\" (pre#4 \"lost\"#5))"
    ∷ codes "remove #2"
    ∷ codes "report 0 units 3 bodies 5 edits 1 log build made:1 made:2 made:3 poll:1 rerun:3 effects:3"
    ∷ codes "report 1 units 0 bodies 0 edits 0 log input:1"
    ∷ codes "report 2 units 3 bodies 1 edits 0 log input:2 heard:3 poll:1 rerun:3 effects:3"
    ∷ codes "report 3 units 1 bodies 0 edits 0 log input:3 heard:3 poll:1"
    ∷ codes "report 4 units 2 bodies 1 edits 2 log input:4 poll:1 rerun:2 removed:3"
    ∷ codes "report 5 units 0 bodies 0 edits 0 log input:5"
    ∷ []))

-- a listener that provides a context and reads it at once
abbrev pub provides_to_itself : Source
provides_to_itself =
    with_actions
    (of_components
    (component
    (UseCell (words (codes "-")) ∷ [])
    (element_with (codes "b") (on (codes "onclick") 0 (Get 0 ∷ []) ∷ []) (text_slot (Read 0)) NoViews)
    ∷ [])
    (event (codes "click") 1 ∷ []))
    ((ProvideAs 0 (words (codes "v")) ∷ WriteTo 0 (LookUp 0) ∷ []) ∷ [])

-- the row of a context that the call itself provided
abbrev pub OwnContextRow : Type 0
OwnContextRow =
    Prints
    provides_to_itself
    (built ∷ (Taken 1 ∷ Heard 3 ∷ Rerun 3 ∷ []) ∷ [])
    (lines
    (codes "append #0 (b#1 @onclick \"-\"#2)"
    ∷ codes "text #2 \"v\""
    ∷ built_line
    ∷ codes "report 1 units 1 bodies 1 edits 1 log input:1 heard:3 rerun:3"
    ∷ []))

-- a cell to which a child's actions append
abbrev pub appends : List Statement → Source
appends statements =
    with_actions
    (of_components
    (component (UseCell (words []) ∷ []) (SlotView (TextOf (Read 0)) (use_alone 1 (Get 0 ∷ []))) ∷ component statements NoViews ∷ [])
    [])
    ((WriteTo 0 (Cat (these (Read 0 ∷ Get 1 ∷ []))) ∷ []) ∷ [])

-- the row of two effects of one batch
abbrev pub BatchRow : Type 0
BatchRow =
    Prints
    (appends
    (EffectOf 0 (these (Get 0 ∷ words (codes "1") ∷ [])) ∷ EffectOf 0 (these (Get 0 ∷ words (codes "2") ∷ [])) ∷ []))
    ((builds 4 ++ Effects 4 ∷ Rerun 3 ∷ Kept 4 ∷ []) ∷ [])
    (lines
    (codes "append #0 \"\"#1 _#2"
    ∷ codes "text #1 \"12\""
    ∷ codes "report 0 units 2 bodies 6 edits 2 log build made:1 made:2 made:3 made:4 effects:4 rerun:3 kept:4"
    ∷ []))

-- the row of two hooks after one run
abbrev pub AfterRow : Type 0
AfterRow =
    Prints
    (appends
    (CallAt AfterRender 0 (these (Get 0 ∷ words (codes "1") ∷ []))
    ∷ CallAt AfterRender 0 (these (Get 0 ∷ words (codes "2") ∷ []))
    ∷ []))
    ((builds 4 ++ Rerun 3 ∷ Kept 4 ∷ []) ∷ [])
    (lines
    (codes "append #0 \"\"#1 _#2"
    ∷ codes "text #1 \"12\""
    ∷ codes "report 0 units 1 bodies 6 edits 2 log build made:1 made:2 made:3 made:4 rerun:3 kept:4"
    ∷ []))

-- a clean-up that spawns a task that outlives its scope, and one that doesn't
abbrev pub spawns_in_a_clean_up : Source
spawns_in_a_clean_up =
    with_tasks
    (with_actions
    (of_components
    (component
    (UseCell (words []) ∷ UseCell (number 1) ∷ [])
    (SlotView (TextOf (Read 0)) (slot (PickOf (Read 1) (use_alone 1 (Get 0 ∷ [])) NoViews)))
    ∷ component (CallAt AtRemoval 0 (these (Get 0 ∷ [])) ∷ []) (text (codes "old"))
    ∷ [])
    (write_number 2 0 ∷ []))
    ((SpawnTask 0 (these (Get 0 ∷ [])) Forever ∷ spawns 0 (Get 0 ∷ []) ∷ []) ∷ []))
    (((WriteTo 0 (Cat (these (Read 0 ∷ words (codes "!") ∷ Me ∷ []))) ∷ []) ∷ []) ∷ [])

-- the row of the task that outlives its scope
abbrev pub ForeverRow : Type 0
ForeverRow =
    Prints
    spawns_in_a_clean_up
    (builds 4 ∷ (Taken 1 ∷ Rerun 3 ∷ Removed 4 ∷ Poll 1 ∷ Rerun 3 ∷ []) ∷ [])
    (lines
    (codes "append #0 \"\"#1 \"old\"#2"
    ∷ codes "replace #2 _#3"
    ∷ codes "text #1 \"!1\""
    ∷ codes "report 0 units 0 bodies 5 edits 1 log build made:1 made:2 made:3 made:4"
    ∷ codes "report 1 units 3 bodies 2 edits 2 log input:1 rerun:3 removed:4 poll:1 rerun:3"
    ∷ []))
