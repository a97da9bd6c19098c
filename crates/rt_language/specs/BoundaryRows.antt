-- Worked rows of suspense boundaries: hooks, callbacks, reads and render counts of fallbacks, and boundaries that turn unseen.
use Rattle.std.specs.Prelude.{ℕ, List, [], ◌∷◌, ◌++◌, Some, None, codes}
use Rattle.rt_model.specs.Replay.{Taken, Rerun, Poll, Effects, Fed, Kept, Removed}
use Rattle.rt_language.specs.Syntax.{Expression, Get, Read, Cat, Equal, Generation, BeforeRender, AfterRender, Statement, UseCell, CallAt, EffectOf, OnResolved, When, WriteTo, SuspendOn, ActOn, Cancel, ComponentUse, View, NoViews, TextView, SlotView, TextOf, PickOf, SuspenseBoundaryOf, ComponentSource, InputSource, WakeInput, MarkInput, Source}
use Rattle.rt_language.specs.Printed.{Prints}
use Rattle.rt_language.specs.Shorthand.{number, words, these, steps, slot, text_slot, element, text, handed, use_before, use_alone, spawns, component, of_components, with_actions, with_tasks, write_number, builds, lines}
use Rattle.rt_language.specs.SuspenseRows.{held_apart, unless_written, fetching}

-- the action that appends a text to a cell
abbrev pub appending : List Statement
appending = WriteTo 0 (Cat (these (Read 0 ∷ Get 1 ∷ []))) ∷ []

-- a child that suspends on a task of the root until its cell is written
abbrev pub waiting : ComponentSource
waiting = component (unless_written ∷ []) (text (codes "ok"))

-- what shows while it waits
abbrev pub dots : List Statement → ComponentSource
dots statements = component statements (text (codes "..."))

-- a root with a text, a cell and a task, and a boundary with a fallback
abbrev pub rooted : View → ComponentUse → List ComponentSource → List (List Statement) → List InputSource → Source
rooted kids fallback components actions inputs =
    with_tasks
    (with_actions
    (of_components
    (component
    (UseCell (words []) ∷ UseCell (number 0) ∷ spawns 0 (Get 1 ∷ []) ∷ [])
    (SlotView (TextOf (Read 0)) (slot (SuspenseBoundaryOf kids (Some fallback))))
    ∷ components)
    inputs)
    (appending ∷ actions))
    fetching

-- an action that appends a letter to the root's text, of which a child has the cell
abbrev pub letter : ℕ → List ℕ → List Expression
letter cell t = Get cell ∷ words t ∷ []

-- a fallback that leaves hooks to the boundary
abbrev pub leaves_hooks : Source
leaves_hooks =
    rooted
    (use_alone 1 (Get 1 ∷ Get 2 ∷ []))
    (handed 2 (Get 0 ∷ []))
    (waiting
    ∷ dots (CallAt BeforeRender 0 (these (letter 0 (codes "b"))) ∷ CallAt AfterRender 0 (these (letter 0 (codes "a"))) ∷ [])
    ∷ [])
    []
    (WakeInput 1 ∷ MarkInput 4 ∷ [])

-- the row of hooks that are called at each run of a boundary
abbrev pub BoundaryHookRow : Type 0
BoundaryHookRow =
    Prints
    leaves_hooks
    ((builds 5 ++ Poll 1 ∷ Rerun 3 ∷ Kept 4 ∷ Rerun 4 ∷ Kept 5 ∷ Rerun 3 ∷ Kept 4 ∷ [])
    ∷ (Taken 1 ∷ Poll 1 ∷ Rerun 4 ∷ Kept 5 ∷ Rerun 5 ∷ Rerun 3 ∷ Kept 4 ∷ [])
    ∷ (Taken 2 ∷ Rerun 4 ∷ Kept 5 ∷ Rerun 3 ∷ Kept 4 ∷ [])
    ∷ [])
    (lines
    (codes "append #0 \"\"#1 \"...\"#3"
    ∷ codes "text #1 \"a\""
    ∷ codes "text #1 \"aba\""
    ∷ codes "replace #3 _#2"
    ∷ codes "replace #2 \"ok\"#4"
    ∷ codes "text #1 \"ababa\""
    ∷ codes "text #1 \"abababa\""
    ∷ (codes "report 0 units 4 bodies 9 edits 3 log build made:1 made:2 made:3 made:4 made:5"
    ++ codes " poll:1 rerun:3 kept:4 rerun:4 kept:5 rerun:3 kept:4")
    ∷ codes "report 1 units 4 bodies 3 edits 3 log input:1 poll:1 rerun:4 kept:5 rerun:5 rerun:3 kept:4"
    ∷ codes "report 2 units 2 bodies 2 edits 1 log input:2 rerun:4 kept:5 rerun:3 kept:4"
    ∷ []))

-- a callback of a child, and one of a scope of the fallback
abbrev pub calls_back : Source
calls_back =
    rooted
    (use_alone 2 (Get 1 ∷ Get 2 ∷ Get 0 ∷ []))
    (handed 3 (Get 0 ∷ []))
    (dots (OnResolved 0 (these (letter 0 (codes "f"))) ∷ [])
    ∷ component (OnResolved 0 (these (letter 2 (codes "k"))) ∷ unless_written ∷ []) (text (codes "ok"))
    ∷ component [] (use_alone 1 (Get 0 ∷ []))
    ∷ [])
    []
    (WakeInput 1 ∷ [])

-- the row of callbacks: those of the fallback's scopes are passed over
abbrev pub CallbackRow : Type 0
CallbackRow =
    Prints
    calls_back
    ((builds 6 ++ Poll 1 ∷ Rerun 4 ∷ Kept 6 ∷ Kept 5 ∷ [])
    ∷ (Taken 1 ∷ Poll 1 ∷ Rerun 4 ∷ Kept 5 ∷ Removed 6 ∷ Rerun 5 ∷ Rerun 3 ∷ Kept 4 ∷ [])
    ∷ [])
    (lines
    (codes "append #0 \"\"#1 \"...\"#3"
    ∷ codes "replace #3 _#2"
    ∷ codes "replace #2 \"ok\"#4"
    ∷ codes "text #1 \"k\""
    ∷ codes "report 0 units 2 bodies 8 edits 1 log build made:1 made:2 made:3 made:4 made:5 made:6 poll:1 rerun:4 kept:6 kept:5"
    ∷ codes "report 1 units 4 bodies 3 edits 3 log input:1 poll:1 rerun:4 kept:5 removed:6 rerun:5 rerun:3 kept:4"
    ∷ []))

-- a boundary that is fed from no fallback to one that shows the render count
abbrev pub gets_a_fallback : Source
gets_a_fallback =
    with_tasks
    (of_components
    (component
    (UseCell (number 0) ∷ UseCell (number 1) ∷ spawns 0 (Get 0 ∷ []) ∷ [])
    (slot
    (PickOf
    (Read 1)
    (slot (SuspenseBoundaryOf (use_alone 2 (Get 0 ∷ Get 2 ∷ [])) None))
    (slot (SuspenseBoundaryOf (use_alone 2 (Get 0 ∷ Get 2 ∷ [])) (Some (handed 1 []))))))
    ∷ component [] (text_slot Generation)
    ∷ waiting
    ∷ [])
    (write_number 2 0 ∷ []))
    fetching

-- the row of a placeholder, which doesn't raise the render count
abbrev pub PlaceholderCountRow : Type 0
PlaceholderCountRow =
    Prints
    gets_a_fallback
    ((builds 5 ++ Poll 1 ∷ Rerun 4 ∷ Kept 5 ∷ []) ∷ (Taken 1 ∷ Rerun 3 ∷ Fed 4 ∷ Kept 5 ∷ []) ∷ [])
    (lines
    (codes "append #0 _#2"
    ∷ codes "replace #2 \"0\"#3"
    ∷ codes "report 0 units 2 bodies 7 edits 1 log build made:1 made:2 made:3 made:4 made:5 poll:1 rerun:4 kept:5"
    ∷ codes "report 1 units 1 bodies 2 edits 1 log input:1 rerun:3 fed:4 kept:5"
    ∷ []))

-- a hook of a fallback that ends the boundary's only holder
abbrev pub ends_its_holder : Source
ends_its_holder =
    record (rooted
    (use_alone 1 (Get 1 ∷ Get 2 ∷ []))
    (handed 2 (Get 2 ∷ []))
    (waiting ∷ dots (CallAt BeforeRender 1 (these (Get 0 ∷ [])) ∷ []) ∷ [])
    ((ActOn Cancel 0 ∷ []) ∷ [])
    (MarkInput 4 ∷ [])) {
      tasks = (steps [] ∷ steps [] ∷ steps [] ∷ []) ∷ [];
    }

-- the row of a boundary that is held at its start
abbrev pub HeldAtStartRow : Type 0
HeldAtStartRow =
    Prints
    ends_its_holder
    ((builds 5 ++ Poll 1 ∷ Rerun 4 ∷ Kept 5 ∷ Rerun 4 ∷ Kept 5 ∷ []) ∷ (Taken 1 ∷ Rerun 4 ∷ Kept 5 ∷ []) ∷ [])
    (lines
    (codes "append #0 \"\"#1 \"...\"#3"
    ∷ codes "replace #3 _#2"
    ∷ codes "report 0 units 3 bodies 8 edits 2 log build made:1 made:2 made:3 made:4 made:5 poll:1 rerun:4 kept:5 rerun:4 kept:5"
    ∷ codes "report 1 units 1 bodies 1 edits 0 log input:1 rerun:4 kept:5"
    ∷ []))

-- a hidden child that writes what the fallback reads
abbrev pub writes_unseen : Source
writes_unseen =
    rooted
    (use_before 1 (Get 1 ∷ Get 2 ∷ []) (use_alone 3 (Get 0 ∷ Read 1 ∷ [])))
    (handed 2 (Get 0 ∷ []))
    (waiting
    ∷ component [] (text_slot (Read 0))
    ∷ component (When (Get 1) (steps (WriteTo 0 (words (codes "w")) ∷ [])) ∷ []) (text (codes "w"))
    ∷ [])
    []
    (WakeInput 1 ∷ [])

-- the row of a fallback whose reads stand while its boundary turns
abbrev pub FallbackReadRow : Type 0
FallbackReadRow =
    Prints
    writes_unseen
    ((builds 6 ++ Poll 1 ∷ Rerun 4 ∷ Kept 5 ∷ Kept 6 ∷ [])
    ∷ (Taken 1
    ∷ Poll 1
    ∷ Rerun 3
    ∷ Fed 4
    ∷ Kept 5
    ∷ Fed 6
    ∷ Rerun 5
    ∷ Rerun 3
    ∷ Kept 4
    ∷ Rerun 4
    ∷ Kept 5
    ∷ Kept 6
    ∷ [])
    ∷ [])
    (lines
    (codes "append #0 \"\"#1 \"\"#4"
    ∷ codes "replace #4 _#2 \"w\"#3"
    ∷ codes "replace #2 \"ok\"#5"
    ∷ codes "text #1 \"w\""
    ∷ codes "report 0 units 2 bodies 8 edits 1 log build made:1 made:2 made:3 made:4 made:5 made:6 poll:1 rerun:4 kept:5 kept:6"
    ∷ codes "report 1 units 5 bodies 6 edits 3 log input:1 poll:1 rerun:3 fed:4 kept:5 fed:6 rerun:5 rerun:3 kept:4 rerun:4 kept:5 kept:6"
    ∷ []))

-- a child that suspends only once a cell is written
abbrev pub suspends_later : Source
suspends_later =
    with_tasks
    (of_components
    (component
    (UseCell (number 0) ∷ [])
    (TextView
    (codes "x")
    (slot (held_apart (use_before 1 (Get 0 ∷ []) (element (codes "i") NoViews)))))
    ∷ component
    (UseCell (number 0)
    ∷ spawns 0 (Get 1 ∷ [])
    ∷ When (Read 0) (steps (When (Equal (Read 1) (number 0)) (steps (SuspendOn 2 ∷ [])) ∷ []))
    ∷ [])
    (text_slot (Cat (these (Read 0 ∷ words (codes "/") ∷ Read 1 ∷ []))))
    ∷ component [] (TextView (codes "a") (element (codes "b") NoViews))
    ∷ [])
    (write_number 1 1 ∷ WakeInput 1 ∷ []))
    fetching

-- the row of a shown boundary that turns to its fallback and back
abbrev pub ShownAndHeldRow : Type 0
ShownAndHeldRow =
    Prints
    suspends_later
    ((builds 5 ++ Poll 1 ∷ [])
    ∷ (Taken 1 ∷ Rerun 5 ∷ Rerun 4 ∷ Kept 5 ∷ [])
    ∷ (Taken 2 ∷ Poll 1 ∷ Rerun 4 ∷ Kept 5 ∷ Rerun 5 ∷ [])
    ∷ [])
    (lines
    (codes "append #0 \"x\"#1 \"0/0\"#2 (i#3)"
    ∷ codes "replace #2 \"a\"#4 (b#5)"
    ∷ codes "remove #3"
    ∷ codes "replace #4 \"0/0\"#2 (i#3)"
    ∷ codes "remove #5"
    ∷ codes "text #2 \"1/1\""
    ∷ codes "report 0 units 1 bodies 6 edits 1 log build made:1 made:2 made:3 made:4 made:5 poll:1"
    ∷ codes "report 1 units 2 bodies 2 edits 2 log input:1 rerun:5 rerun:4 kept:5"
    ∷ codes "report 2 units 3 bodies 2 edits 3 log input:2 poll:1 rerun:4 kept:5 rerun:5"
    ∷ []))

-- a boundary inside another one, each held by a task of the root
abbrev pub turns_unseen : Source
turns_unseen =
    with_tasks
    (of_components
    (component
    (UseCell (number 0) ∷ UseCell (number 0) ∷ spawns 0 (Get 0 ∷ []) ∷ spawns 0 (Get 1 ∷ []) ∷ [])
    (slot
    (held_apart
    (use_before 1 (Get 0 ∷ Get 2 ∷ []) (slot (held_apart (use_alone 1 (Get 1 ∷ Get 3 ∷ [])))))))
    ∷ waiting
    ∷ dots []
    ∷ [])
    (WakeInput 2 ∷ WakeInput 1 ∷ []))
    fetching

-- the row of a hidden boundary that turns without an edit
abbrev pub HiddenTurnRow : Type 0
HiddenTurnRow =
    Prints
    turns_unseen
    ((builds 7 ++ Poll 1 ∷ Poll 2 ∷ Rerun 4 ∷ Kept 5 ∷ Kept 6 ∷ Rerun 6 ∷ Kept 7 ∷ [])
    ∷ (Taken 1 ∷ Poll 2 ∷ Rerun 6 ∷ Kept 7 ∷ Rerun 7 ∷ [])
    ∷ (Taken 2 ∷ Poll 1 ∷ Rerun 4 ∷ Kept 5 ∷ Kept 6 ∷ Rerun 5 ∷ [])
    ∷ [])
    (lines
    (codes "append #0 \"...\"#4"
    ∷ codes "replace #4 _#1 \"ok\"#5"
    ∷ codes "replace #1 \"ok\"#6"
    ∷ (codes "report 0 units 4 bodies 10 edits 1 log build made:1 made:2 made:3 made:4 made:5 made:6 made:7"
    ++ codes " poll:1 poll:2 rerun:4 kept:5 kept:6 rerun:6 kept:7")
    ∷ codes "report 1 units 3 bodies 2 edits 0 log input:1 poll:2 rerun:6 kept:7 rerun:7"
    ∷ codes "report 2 units 3 bodies 2 edits 2 log input:2 poll:1 rerun:4 kept:5 kept:6 rerun:5"
    ∷ []))

-- a hidden child with an effect
abbrev pub waits_to_act : Source
waits_to_act =
    rooted
    (use_before 2 (Get 1 ∷ Get 2 ∷ []) (use_alone 1 (Get 0 ∷ [])))
    (handed 3 [])
    (component (EffectOf 0 (these (letter 0 (codes "e"))) ∷ []) NoViews ∷ waiting ∷ dots (EffectOf 1 (these []) ∷ []) ∷ [])
    ([] ∷ [])
    (WakeInput 1 ∷ [])

-- the row of an effect that waits until its scope is shown
abbrev pub WaitingEffectRow : Type 0
WaitingEffectRow =
    Prints
    waits_to_act
    ((builds 6 ++ Poll 1 ∷ Rerun 4 ∷ Kept 5 ∷ Kept 6 ∷ Effects 4 ∷ [])
    ∷ (Taken 1 ∷ Poll 1 ∷ Rerun 4 ∷ Kept 5 ∷ Kept 6 ∷ Rerun 5 ∷ Effects 6 ∷ Rerun 3 ∷ Kept 4 ∷ [])
    ∷ [])
    (lines
    (codes "append #0 \"\"#1 \"...\"#4"
    ∷ codes "replace #4 _#2 _#3"
    ∷ codes "replace #2 \"ok\"#5"
    ∷ codes "text #1 \"e\""
    ∷ codes "report 0 units 3 bodies 8 edits 1 log build made:1 made:2 made:3 made:4 made:5 made:6 poll:1 rerun:4 kept:5 kept:6 effects:4"
    ∷ codes "report 1 units 5 bodies 3 edits 3 log input:1 poll:1 rerun:4 kept:5 kept:6 rerun:5 effects:6 rerun:3 kept:4"
    ∷ []))
