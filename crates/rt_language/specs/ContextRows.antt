-- Worked rows of contexts.
use Rattle.std.specs.Prelude.{[], ◌∷◌, codes}
use Rattle.rt_model.specs.Replay.{Taken, Heard, Rerun, Kept}
use Rattle.rt_language.specs.Syntax.{Read, Cat, LookUp, UseCell, ProvideAs, View, NoViews, FragmentOf, Source}
use Rattle.rt_language.specs.Printed.{Prints}
use Rattle.rt_language.specs.Shorthand.{words, these, slot, text_slot, element, element_with, use_alone, component, of_components, with_actions, on, write_text, event, builds, lines}

-- a child that greets what the root provides
abbrev pub greets : View → Source
greets view =
    of_components
    (component (ProvideAs 0 (words (codes "world")) ∷ []) view
    ∷ component [] (element (codes "div") (text_slot (Cat (these (words (codes "hello ") ∷ LookUp 0 ∷ [])))))
    ∷ [])
    []

-- the child under a fragment
abbrev pub through_fragment : Source
through_fragment = greets (slot (FragmentOf (use_alone 1 [])))

-- the row of a context through a fragment
abbrev pub FragmentContextRow : Type 0
FragmentContextRow =
    Prints
    through_fragment
    (builds 5 ∷ [])
    (lines
    (codes "append #0 (div#1 \"hello world\"#2)"
    ∷ codes "report 0 units 0 bodies 6 edits 1 log build made:1 made:2 made:3 made:4 made:5"
    ∷ []))

-- the row of a context without one
abbrev pub ContextRow : Type 0
ContextRow =
    Prints
    (greets (use_alone 1 []))
    (builds 4 ∷ [])
    (lines
    (codes "append #0 (div#1 \"hello world\"#2)"
    ∷ codes "report 0 units 0 bodies 5 edits 1 log build made:1 made:2 made:3 made:4"
    ∷ []))

-- a context that is provided anew at each run, and read two scopes below
abbrev pub tracks : Source
tracks =
    of_components
    (component (UseCell (words (codes "a")) ∷ ProvideAs 0 (Read 0) ∷ []) (use_alone 2 [])
    ∷ component [] (text_slot (LookUp 0))
    ∷ component [] (use_alone 1 [])
    ∷ [])
    (write_text 1 (codes "b") ∷ write_text 1 (codes "b") ∷ [])

-- the row of a context that changes, and of one that doesn't
abbrev pub TrackedRow : Type 0
TrackedRow =
    Prints
    tracks
    (builds 5 ∷ (Taken 1 ∷ Rerun 3 ∷ Kept 4 ∷ Rerun 5 ∷ []) ∷ (Taken 2 ∷ Rerun 3 ∷ Kept 4 ∷ []) ∷ [])
    (lines
    (codes "append #0 \"a\"#1"
    ∷ codes "text #1 \"b\""
    ∷ codes "report 0 units 0 bodies 6 edits 1 log build made:1 made:2 made:3 made:4 made:5"
    ∷ codes "report 1 units 2 bodies 2 edits 1 log input:1 rerun:3 kept:4 rerun:5"
    ∷ codes "report 2 units 1 bodies 1 edits 0 log input:2 rerun:3 kept:4"
    ∷ []))

-- a scope between that provides at a click
abbrev pub nearer : Source
nearer =
    with_actions
    (of_components
    (component (ProvideAs 0 (words (codes "a")) ∷ []) (use_alone 2 [])
    ∷ component [] (text_slot (LookUp 0))
    ∷ component [] (element_with (codes "b") (on (codes "onclick") 0 [] ∷ []) NoViews (use_alone 1 []))
    ∷ [])
    (event (codes "click") 1 ∷ []))
    ((ProvideAs 0 (words (codes "m")) ∷ []) ∷ [])

-- the row of a nearer provider
abbrev pub NearerRow : Type 0
NearerRow =
    Prints
    nearer
    (builds 5 ∷ (Taken 1 ∷ Heard 4 ∷ Rerun 5 ∷ []) ∷ [])
    (lines
    (codes "append #0 (b#1 @onclick) \"a\"#2"
    ∷ codes "text #2 \"m\""
    ∷ codes "report 0 units 0 bodies 6 edits 1 log build made:1 made:2 made:3 made:4 made:5"
    ∷ codes "report 1 units 1 bodies 1 edits 1 log input:1 heard:4 rerun:5"
    ∷ []))
