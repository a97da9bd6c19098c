-- Worked rows of error boundaries.
use Rattle.std.specs.Prelude.{[], ◌∷◌, ◌++◌, Option, Some, None, codes}
use Rattle.rt_model.specs.Replay.{Taken, Heard, Rerun, Made, Removed}
use Rattle.rt_language.specs.Syntax.{Get, Read, Cat, IsAbsent, Parse, NearestError, Let, UseCell, UseHook, When, ClearError, FailWith, ComponentUse, NoViews, ErrorBoundaryOf, Source}
use Rattle.rt_language.specs.Printed.{Prints}
use Rattle.rt_language.specs.Shorthand.{words, these, steps, slot, text_slot, element, element_with, text, handed, use_alone, use_before, component, of_components, with_actions, on, write_text, event, builds, lines}

-- a child that fails where its cell holds no number, under a boundary with a handler
abbrev pub catches : Source
catches =
    with_actions
    (of_components
    (component
    (UseCell (words (codes "2")) ∷ [])
    (slot (ErrorBoundaryOf (use_alone 1 (Get 0 ∷ [])) (Some (handed 2 []))))
    ∷ component
    (Let (Parse (Read 0))
    ∷ When (IsAbsent (Get 1)) (steps (FailWith (words (codes "bad multiplier")) ∷ []))
    ∷ UseHook (Get 1)
    ∷ [])
    (element (codes "button") (text_slot (Cat (these (Get 2 ∷ words (codes "x") ∷ Read 0 ∷ [])))))
    ∷ component
    []
    (element_with
    (codes "div")
    []
    (text_slot (Cat (these (words (codes "Oops: ") ∷ NearestError ∷ []))))
    (element_with (codes "button") (on (codes "onclick") 0 [] ∷ []) (text (codes "try again")) NoViews))
    ∷ [])
    (write_text 1 [] ∷ write_text 1 (codes "3") ∷ event (codes "click") 5 ∷ []))
    ((ClearError ∷ []) ∷ [])

-- the row of an error that is caught and cleared
abbrev pub CaughtRow : Type 0
CaughtRow =
    Prints
    catches
    (builds 5
    ∷ (Taken 1 ∷ Rerun 5 ∷ Rerun 4 ∷ Removed 5 ∷ [])
    ∷ (Taken 2 ∷ [])
    ∷ (Taken 3 ∷ Heard 4 ∷ Rerun 4 ∷ Made 6 ∷ [])
    ∷ [])
    (lines
    (codes "append #0 (button#1 \"2x2\"#2)"
    ∷ codes "replace #1 (div#3 \"Oops: bad multiplier\"#4) (button#5 @onclick \"try again\"#6)"
    ∷ codes "replace #3 (button#7 \"3x3\"#8)"
    ∷ codes "remove #5"
    ∷ codes "report 0 units 0 bodies 6 edits 1 log build made:1 made:2 made:3 made:4 made:5"
    ∷ codes "report 1 units 2 bodies 2 edits 1 log input:1 rerun:5 rerun:4 removed:5"
    ∷ codes "report 2 units 0 bodies 0 edits 0 log input:2"
    ∷ codes "report 3 units 1 bodies 2 edits 2 log input:3 heard:4 rerun:4 made:6"
    ∷ []))

-- two children that fail, under a boundary
abbrev pub both_fail : Option ComponentUse → Source
both_fail handler =
    of_components
    (component [] (slot (ErrorBoundaryOf (use_before 1 (words (codes "a") ∷ []) (use_alone 1 (words (codes "b") ∷ []))) handler))
    ∷ component (FailWith (Get 0) ∷ []) NoViews
    ∷ [])
    []

-- the row of two errors, the first of which is shown by the default handler
abbrev pub FirstErrorRow : Type 0
FirstErrorRow =
    Prints
    (both_fail None)
    ((builds 6 ++ Rerun 4 ∷ Removed 5 ∷ Removed 6 ∷ []) ∷ [])
    (lines
    (codes "append #0 _#1 _#2"
    ∷ codes "replace #1 (div#3 style:color=\"red\" (pre#4 \"a\"#5))"
    ∷ codes "remove #2"
    ∷ codes "report 0 units 1 bodies 8 edits 3 log build made:1 made:2 made:3 made:4 made:5 made:6 rerun:4 removed:5 removed:6"
    ∷ []))

-- the row of a handler that fails: the children stay
abbrev pub FailingHandlerRow : Type 0
FailingHandlerRow =
    Prints
    (both_fail (Some (handed 1 (words (codes "h") ∷ []))))
    ((builds 6 ++ Rerun 4 ∷ []) ∷ [])
    (lines
    (codes "append #0 _#1 _#2"
    ∷ codes "report 0 units 1 bodies 8 edits 1 log build made:1 made:2 made:3 made:4 made:5 made:6 rerun:4"
    ∷ []))
