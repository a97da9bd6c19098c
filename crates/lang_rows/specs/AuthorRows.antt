-- Worked rows of what authors are told: a body that marks itself, a callback whose turn doesn't come, effects of hidden scopes, a row that is too long.
use Rattle.std.specs.Prelude.{ℕ, zero, suc, [], ◌∷◌, ◌++◌, codes, None}
use Rattle.rt_model.specs.Causes.{usual}
use Rattle.rt_model.specs.Replay.{Taken, Heard, Rerun, Poll, Effects, Kept}
use Rattle.rt_language.specs.Syntax.{Cat, EffectOf, Get, Hole, Let, LookUp, NoViews, OnResolved, ProvideAs, Read, SuspendOn, SuspenseBoundaryOf, TextOf, UseCell, View, SlotView, When, WriteTo, Source}
use Rattle.rt_language.specs.Printed.{Prints, FaultPrints}
use Rattle.rt_language.specs.FaultRows.{five_units}
use Rattle.rt_language.specs.Shorthand.{number, words, these, steps, slot, text_slot, element_with, text, component, of_components, with_actions, with_tasks, use_before, use_alone, spawns, on, event, write_number, built, builds, lines}

-- a body that looks a kind up in its own scope, and then provides two values of it
abbrev pub provides_two : Source
provides_two =
    of_components
    (component
    (Let (LookUp 0) ∷ ProvideAs 0 (words (codes "light")) ∷ ProvideAs 0 (words (codes "dark")) ∷ [])
    (text_slot (Get 0))
    ∷ [])
    []

-- the row of such a body: each run marks its scope again, so it spends its units
abbrev pub TwoValuesRow : Type 0
TwoValuesRow =
    FaultPrints
    five_units
    provides_two
    []
    (built ++ Rerun 3 ∷ Rerun 3 ∷ Rerun 3 ∷ Rerun 3 ∷ Rerun 3 ∷ [])
    (lines (codes "append #0 \"\"#1" ∷ codes "text #1 \"dark\"" ∷ codes "fault 3 OutOfTurns 5" ∷ []))

-- a listener that leaves a callback to a boundary which shows its children
abbrev pub waits_for_a_turn : Source
waits_for_a_turn =
    with_actions
    (of_components
    (component
    (UseCell (words (codes "-")) ∷ [])
    (SlotView (TextOf (Read 0)) (slot (SuspenseBoundaryOf (use_alone 1 (Get 0 ∷ [])) None)))
    ∷ component [] (element_with (codes "b") (on (codes "onclick") 1 (Get 0 ∷ []) ∷ []) NoViews NoViews)
    ∷ [])
    (event (codes "click") 2 ∷ []))
    ((WriteTo 0 (words (codes "shown")) ∷ []) ∷ (OnResolved 0 (these (Get 0 ∷ [])) ∷ []) ∷ [])

-- the row of that callback, which isn't called
abbrev pub NoTurnRow : Type 0
NoTurnRow =
    Prints
    waits_for_a_turn
    (builds 5 ∷ (Taken 1 ∷ Heard 5 ∷ []) ∷ [])
    (lines
    (codes "append #0 \"-\"#1 (b#2 @onclick)"
    ∷ codes "report 0 units 0 bodies 6 edits 1 log build made:1 made:2 made:3 made:4 made:5"
    ∷ codes "report 1 units 0 bodies 0 edits 0 log input:1 heard:5"
    ∷ []))

-- a child with an effect, in a boundary that a task holds once a cell is written
abbrev pub acts_while_hidden : Source
acts_while_hidden =
    with_tasks
    (with_actions
    (of_components
    (component
    (UseCell (words []) ∷ UseCell (number 0) ∷ spawns 0 [] ∷ [])
    (SlotView
    (TextOf (Read 0))
    (slot (SuspenseBoundaryOf (use_before 2 (Get 0 ∷ Get 1 ∷ []) (use_alone 1 (Get 1 ∷ Get 2 ∷ []))) None)))
    ∷ component (When (Read 0) (steps (SuspendOn 1 ∷ [])) ∷ []) (text (codes "holder"))
    ∷ component (Let (Read 1) ∷ EffectOf 0 (these (Get 0 ∷ [])) ∷ []) (text (codes "kid"))
    ∷ [])
    (write_number 2 1 ∷ write_number 2 2 ∷ []))
    ((WriteTo 0 (Cat (these (Read 0 ∷ words (codes "!") ∷ []))) ∷ []) ∷ []))
    (([] ∷ [] ∷ []) ∷ [])

-- the row of that child: once it was mounted its effects run, also while it is hidden
abbrev pub HiddenEffectRow : Type 0
HiddenEffectRow =
    Prints
    acts_while_hidden
    ((builds 6 ++ Poll 1 ∷ Effects 5 ∷ Rerun 3 ∷ Kept 4 ∷ [])
    ∷ (Taken 1 ∷ Rerun 5 ∷ Rerun 6 ∷ Rerun 4 ∷ Kept 5 ∷ Kept 6 ∷ Effects 5 ∷ Rerun 3 ∷ Kept 4 ∷ [])
    ∷ (Taken 2 ∷ Rerun 5 ∷ Rerun 6 ∷ Effects 5 ∷ Rerun 3 ∷ Kept 4 ∷ [])
    ∷ [])
    (lines
    (codes "append #0 \"\"#1 \"kid\"#2 \"holder\"#3"
    ∷ codes "text #1 \"!\""
    ∷ codes "replace #2 _#4"
    ∷ codes "remove #3"
    ∷ codes "text #1 \"!!\""
    ∷ codes "text #1 \"!!!\""
    ∷ codes "report 0 units 3 bodies 8 edits 2 log build made:1 made:2 made:3 made:4 made:5 made:6 poll:1 effects:5 rerun:3 kept:4"
    ∷ codes "report 1 units 5 bodies 4 edits 3 log input:1 rerun:5 rerun:6 rerun:4 kept:5 kept:6 effects:5 rerun:3 kept:4"
    ∷ codes "report 2 units 4 bodies 3 edits 1 log input:2 rerun:5 rerun:6 effects:5 rerun:3 kept:4"
    ∷ []))

-- so many placeholders in a row
abbrev pub holes : ℕ → View
holes zero = NoViews
holes (suc more) = SlotView Hole (holes more)

-- the row of 257 nodes in a row, which don't fit
abbrev pub LongRow : Type 0
LongRow =
    FaultPrints usual (of_components (component [] (holes 257) ∷ []) []) [] built (lines (codes "fault 8 BadNode 3" ∷ []))
