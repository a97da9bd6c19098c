-- Worked rows of tasks and effects.
use Rattle.std.specs.Prelude.{List, [], ◌∷◌, ◌++◌, codes}
use Rattle.rt_model.specs.Replay.{Taken, Rerun, Poll, Effects}
use Rattle.rt_language.specs.Syntax.{Get, Read, Me, Statement, Let, UseCell, EffectOf, NoExpressions, WriteTo, ActOn, WakeUp, Cancel, WakeInput, Source}
use Rattle.rt_language.specs.Printed.{Prints}
use Rattle.rt_language.specs.Shorthand.{number, these, text_slot, text, use_alone, spawns, component, of_components, with_actions, with_tasks, built, built_line, builds, lines}

-- a task that is cancelled at once, and what else the body does
abbrev pub cancelled : List Statement → Source
cancelled more =
    with_tasks
    (with_actions (of_components (component (spawns 0 [] ∷ ActOn Cancel 0 ∷ more) (text (codes "x")) ∷ []) []) ([] ∷ []))
    (([] ∷ []) ∷ [])

-- the row of a task that ended before its poll, with an effect waiting
abbrev pub CancelledRow : Type 0
CancelledRow =
    Prints
    (cancelled (EffectOf 0 NoExpressions ∷ []))
    ((built ++ Effects 3 ∷ []) ∷ [])
    (lines
    (codes "append #0 \"x\"#1"
    ∷ codes "report 0 units 1 bodies 4 edits 1 log build made:1 made:2 made:3 effects:3"
    ∷ []))

-- the same without the effect
abbrev pub CancelledAloneRow : Type 0
CancelledAloneRow =
    Prints
    (cancelled [])
    (built ∷ [])
    (lines (codes "append #0 \"x\"#1" ∷ built_line ∷ []))

-- an effect that wakes a task, and an effect of the child
abbrev pub wakes : Source
wakes =
    with_tasks
    (with_actions
    (of_components
    (component (spawns 0 [] ∷ EffectOf 1 (these (Get 0 ∷ [])) ∷ []) (use_alone 1 [])
    ∷ component (EffectOf 0 NoExpressions ∷ []) (text (codes "k"))
    ∷ [])
    [])
    ([] ∷ (ActOn WakeUp 0 ∷ []) ∷ []))
    (([] ∷ [] ∷ []) ∷ [])

-- the row of a woken task that comes before the next batch
abbrev pub WokenRow : Type 0
WokenRow =
    Prints
    wakes
    ((builds 4 ++ Poll 1 ∷ Effects 3 ∷ Poll 1 ∷ Effects 4 ∷ []) ∷ [])
    (lines
    (codes "append #0 \"k\"#1"
    ∷ codes "report 0 units 4 bodies 5 edits 1 log build made:1 made:2 made:3 made:4 poll:1 effects:3 poll:1 effects:4"
    ∷ []))

-- a task that writes, wakes itself, and writes again
abbrev pub writes_twice : Source
writes_twice =
    with_tasks
    (of_components (component (UseCell (number 0) ∷ spawns 0 (Get 0 ∷ []) ∷ []) (text_slot (Read 0)) ∷ []) [])
    (((WriteTo 0 (number 1) ∷ Let Me ∷ ActOn WakeUp 1 ∷ []) ∷ (WriteTo 0 (number 2) ∷ []) ∷ []) ∷ [])

-- the row of a task that goes first on equal order
abbrev pub TaskFirstRow : Type 0
TaskFirstRow =
    Prints
    writes_twice
    ((built ++ Poll 1 ∷ Poll 1 ∷ Rerun 3 ∷ []) ∷ [])
    (lines
    (codes "append #0 \"0\"#1"
    ∷ codes "text #1 \"2\""
    ∷ codes "report 0 units 3 bodies 5 edits 2 log build made:1 made:2 made:3 poll:1 poll:1 rerun:3"
    ∷ []))

-- a task that cancels itself
abbrev pub cancels_itself : Source
cancels_itself =
    with_tasks
    (of_components (component (spawns 0 [] ∷ []) (text (codes "x")) ∷ []) (WakeInput 1 ∷ []))
    (((Let Me ∷ ActOn Cancel 0 ∷ []) ∷ [] ∷ []) ∷ [])

-- the row of a task that cancels itself
abbrev pub SelfCancelRow : Type 0
SelfCancelRow =
    Prints
    cancels_itself
    ((built ++ Poll 1 ∷ []) ∷ (Taken 1 ∷ []) ∷ [])
    (lines
    (codes "append #0 \"x\"#1"
    ∷ codes "report 0 units 1 bodies 4 edits 1 log build made:1 made:2 made:3 poll:1"
    ∷ codes "report 1 units 0 bodies 0 edits 0 log input:1"
    ∷ []))
