-- Worked rows that end in a fault.
use Rattle.std.specs.Prelude.{ℕ, [], ◌∷◌, ◌++◌, codes}
use Rattle.rt_model.specs.Causes.{Limits, usual}
use Rattle.rt_model.specs.Replay.{Taken, Rerun, Poll, Fed, Kept}
use Rattle.rt_language.specs.Syntax.{Get, Read, Add, Let, UseCell, UseHook, When, WriteTo, SuspendOn, StaticAttribute, NoViews, Source}
use Rattle.rt_language.specs.Printed.{PrintsWithin, FaultPrints}
use Rattle.rt_language.specs.Shorthand.{number, words, steps, text_slot, element_with, spawns, component, of_components, with_actions, with_tasks, on, write_number, built, builds, built_line, lines}
use Rattle.rt_language.specs.ContextRows.{through_fragment}

-- a body that writes what it reads, once a cell is set
abbrev pub never_at_rest : Source
never_at_rest =
    of_components
    (component
    (UseCell (number 0) ∷ UseCell (number 0) ∷ When (Read 0) (steps (WriteTo 1 (Add (Read 1) (number 1)) ∷ [])) ∷ [])
    (text_slot (Read 1))
    ∷ [])
    (write_number 1 1 ∷ [])

-- limits of five units
abbrev pub five_units : Limits
five_units = record usual { units = 5 }

-- the row of units that are spent
abbrev pub SpentRow : Type 0
SpentRow =
    FaultPrints
    five_units
    never_at_rest
    (built ∷ [])
    (Taken 1 ∷ Rerun 3 ∷ Rerun 3 ∷ Rerun 3 ∷ Rerun 3 ∷ Rerun 3 ∷ [])
    (lines
    (codes "append #0 \"0\"#1"
    ∷ codes "text #1 \"1\""
    ∷ codes "text #1 \"2\""
    ∷ codes "text #1 \"3\""
    ∷ codes "text #1 \"4\""
    ∷ built_line
    ∷ codes "fault 3 OutOfTurns 5"
    ∷ []))

-- limits of this height
abbrev pub of_height : ℕ → Limits
of_height height = record usual { height = height }

-- the row of a make that is too deep
abbrev pub TooDeepRow : Type 0
TooDeepRow = FaultPrints (of_height 4) through_fragment [] (builds 4) (lines (codes "fault 4 TooDeep 5" ∷ []))

-- the same within a height of five
abbrev pub DeepRow : Type 0
DeepRow =
    PrintsWithin
    (of_height 5)
    through_fragment
    (builds 5 ∷ [])
    (lines
    (codes "append #0 (div#1 \"hello world\"#2)"
    ∷ codes "report 0 units 0 bodies 6 edits 1 log build made:1 made:2 made:3 made:4 made:5"
    ∷ []))

-- a body that asks for another hook once a cell is set
abbrev pub changes_hook : Source
changes_hook =
    of_components
    (component
    (UseCell (number 0) ∷ When (Read 0) (steps (UseHook (number 1) ∷ [])) ∷ UseHook (words (codes "t")) ∷ [])
    (text_slot (Get 1))
    ∷ [])
    (write_number 1 1 ∷ [])

-- the row of a hook of another kind
abbrev pub HookRow : Type 0
HookRow =
    FaultPrints
    usual
    changes_hook
    (built ∷ [])
    (Taken 1 ∷ Rerun 3 ∷ [])
    (lines (codes "append #0 \"t\"#1" ∷ built_line ∷ codes "fault 6 HookChanged 3 1 2 1" ∷ []))

-- a body that always suspends on its first task
abbrev pub always_suspends : Source
always_suspends =
    with_tasks
    (of_components (component (UseCell (number 0) ∷ spawns 0 (Get 0 ∷ []) ∷ Let (Read 0) ∷ SuspendOn 1 ∷ []) NoViews ∷ []) [])
    (((WriteTo 0 (number 1) ∷ []) ∷ []) ∷ [])

-- the row of a task that has ended
abbrev pub EndedTaskRow : Type 0
EndedTaskRow =
    FaultPrints
    usual
    always_suspends
    []
    (built ++ Rerun 1 ∷ Fed 2 ∷ Kept 3 ∷ Poll 1 ∷ Rerun 1 ∷ Fed 2 ∷ Kept 3 ∷ Rerun 3 ∷ [])
    (lines (codes "append #0 _#2" ∷ codes "replace #2 _#1" ∷ codes "fault 7 NoSuchTask 3 1" ∷ []))

-- an attribute and a listener of one name
abbrev pub named_twice : Source
named_twice =
    with_actions
    (of_components
    (component
    []
    (element_with
    (codes "p")
    (StaticAttribute (codes "onclick") (codes "a") ∷ on (codes "onclick") 0 [] ∷ [])
    NoViews
    NoViews)
    ∷ [])
    [])
    ([] ∷ [])

-- the row of a name that stands twice
abbrev pub BadNodeRow : Type 0
BadNodeRow = FaultPrints usual named_twice [] built (lines (codes "fault 8 BadNode 3" ∷ []))
