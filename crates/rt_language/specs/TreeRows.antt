-- Worked rows of trees: attributes, bubbling through slots, fragments of several nodes, equal templates, origins of listeners.
use Rattle.std.specs.Prelude.{pos, List, [], ◌∷◌, ◌++◌, Some, None, codes}
use Rattle.rt_model.specs.Replay.{Taken, Heard, Rerun, Made, Kept, Removed}
use Rattle.rt_language.specs.Syntax.{NumberLiteral, Expression, Get, Read, Cat, Equal, Less, NearestError, Payload, AtRemoval, UseCell, CallAt, WriteTo, ClearError, FailWith, Prevent, SlotAttribute, View, NoViews, SlotView, TextOf, ListOf, PickOf, FragmentOf, ErrorBoundaryOf, ElementView, EventInput, Source}
use Rattle.rt_language.specs.Printed.{Prints}
use Rattle.rt_language.specs.Shorthand.{number, words, these, slot, text_slot, element, element_with, text, handed, use_alone, component, of_components, with_actions, on, write_number, event, built, builds, built_line, lines}

-- a paragraph with two attributes
abbrev pub two_texts : List Expression → View
two_texts parts =
    element_with (codes "p") (SlotAttribute (codes "a") (Cat (these parts)) ∷ SlotAttribute (codes "b") (Cat (these [])) ∷ []) NoViews
    NoViews

-- a paragraph with an attribute and a listener
abbrev pub text_and_listener : View
text_and_listener = element_with (codes "p") (SlotAttribute (codes "b") (number 7) ∷ on (codes "onclick") 0 [] ∷ []) NoViews NoViews

-- a paragraph with two listeners
abbrev pub two_listeners : View
two_listeners = element_with (codes "p") (on (codes "a") 0 [] ∷ on (codes "onclick") 0 [] ∷ []) NoViews NoViews

-- two paragraphs whose slots are now texts, now listeners
abbrev pub dresses : Source
dresses =
    with_actions
    (of_components
    (component
    (UseCell (number 0) ∷ [])
    (SlotView
    (PickOf
    (Equal (Read 0) (number 0))
    (two_texts (words (codes "v") ∷ Read 0 ∷ []))
    (slot (PickOf (Equal (Read 0) (number 1)) text_and_listener two_listeners)))
    (slot (PickOf (Less (Read 0) (number 1)) (two_texts (words (codes "v") ∷ [])) text_and_listener)))
    ∷ [])
    (write_number 1 1 ∷ write_number 1 2 ∷ write_number 1 0 ∷ []))
    ([] ∷ [])

-- the row of attributes that become listeners
abbrev pub DressRow : Type 0
DressRow =
    Prints
    dresses
    (built ∷ (Taken 1 ∷ Rerun 3 ∷ []) ∷ (Taken 2 ∷ Rerun 3 ∷ []) ∷ (Taken 3 ∷ Rerun 3 ∷ []) ∷ [])
    (lines
    (codes "append #0 (p#1 a=\"v0\" b=\"\") (p#2 a=\"v\" b=\"\")"
    ∷ codes "replace #1 (p#3 b=\"7\" @onclick)"
    ∷ codes "attr #2 a none"
    ∷ codes "attr #2 b none"
    ∷ codes "attr #2 b=\"7\""
    ∷ codes "listen #2 onclick"
    ∷ codes "attr #3 b none"
    ∷ codes "listen #3 a"
    ∷ codes "replace #3 (p#4 a=\"v0\" b=\"\")"
    ∷ codes "attr #2 b none"
    ∷ codes "unlisten #2 onclick"
    ∷ codes "attr #2 a=\"v\""
    ∷ codes "attr #2 b=\"\""
    ∷ built_line
    ∷ codes "report 1 units 1 bodies 1 edits 5 log input:1 rerun:3"
    ∷ codes "report 2 units 1 bodies 1 edits 2 log input:2 rerun:3"
    ∷ codes "report 3 units 1 bodies 1 edits 5 log input:3 rerun:3"
    ∷ []))

-- listeners of a child below a fragment in a fragment, and of an element round it
abbrev pub bubbles : Source
bubbles =
    with_actions
    (of_components
    (component
    (UseCell (words []) ∷ [])
    (element_with
    (codes "div")
    (on (codes "onclick") 0 (Get 0 ∷ words (codes "o") ∷ []) ∷ [])
    (slot (FragmentOf (slot (ListOf (number 1) (use_alone 1 (Get 0 ∷ []))))))
    (text_slot (Read 0)))
    ∷ component
    []
    (element_with
    (codes "b")
    (on (codes "onclick") 0 (Get 0 ∷ Payload ∷ []) ∷ on (codes "xxclick") 0 (Get 0 ∷ words (codes "x") ∷ []) ∷ [])
    (text (codes "t"))
    NoViews)
    ∷ [])
    (EventInput (codes "click") 3 (Some (NumberLiteral (pos 7))) None
    ∷ EventInput (codes "click") 2 None (Some (pos 0))
    ∷ event (codes "click") 0
    ∷ event (codes "click") 4
    ∷ []))
    ((WriteTo 0 (Cat (these (Read 0 ∷ Get 1 ∷ Payload ∷ []))) ∷ Prevent ∷ []) ∷ [])

-- the row of an event at a text, which bubbles out of a child
abbrev pub BubbleRow : Type 0
BubbleRow =
    Prints
    bubbles
    (builds 5
    ∷ (Taken 1 ∷ Heard 5 ∷ Heard 5 ∷ Heard 3 ∷ Rerun 3 ∷ Kept 4 ∷ [])
    ∷ (Taken 2 ∷ Heard 5 ∷ Heard 5 ∷ Rerun 3 ∷ Kept 4 ∷ [])
    ∷ (Taken 3 ∷ [])
    ∷ (Taken 4 ∷ [])
    ∷ [])
    (lines
    (codes "append #0 (div#1 @onclick (b#2 @onclick @xxclick \"t\"#3)) \"\"#4"
    ∷ codes "text #4 \"x77o7\""
    ∷ codes "text #4 \"x77o7x\""
    ∷ codes "report 0 units 0 bodies 6 edits 1 log build made:1 made:2 made:3 made:4 made:5"
    ∷ codes "report 1 units 1 bodies 1 edits 1 log input:1 heard:5 heard:5 heard:3 rerun:3 kept:4"
    ∷ codes "report 2 units 1 bodies 1 edits 1 log input:2 heard:5 heard:5 rerun:3 kept:4"
    ∷ codes "report 3 units 0 bodies 0 edits 0 log input:3"
    ∷ codes "report 4 units 0 bodies 0 edits 0 log input:4"
    ∷ []))

-- a list of texts, each with a component of two elements after it
abbrev pub shrinks : Source
shrinks =
    with_actions
    (of_components
    (component (UseCell (number 3) ∷ []) (slot (ListOf (Read 0) (SlotView (TextOf (Get 1)) (use_alone 1 []))))
    ∷ component (CallAt AtRemoval 0 (these []) ∷ []) (element_with (codes "b") [] NoViews (element (codes "i") NoViews))
    ∷ [])
    (write_number 1 1 ∷ write_number 1 3 ∷ []))
    ([] ∷ [])

-- the row of a fragment that shrinks and grows
abbrev pub ShrinkRow : Type 0
ShrinkRow =
    Prints
    shrinks
    (builds 6 ∷ (Taken 1 ∷ Rerun 3 ∷ Kept 4 ∷ Removed 5 ∷ Removed 6 ∷ []) ∷ (Taken 2 ∷ Rerun 3 ∷ Kept 4 ∷ Made 7 ∷ Made 8 ∷ []) ∷ [])
    (lines
    (codes "append #0 \"0\"#1 (b#2) (i#3) \"1\"#4 (b#5) (i#6) \"2\"#7 (b#8) (i#9)"
    ∷ codes "remove #4"
    ∷ codes "remove #5"
    ∷ codes "remove #6"
    ∷ codes "remove #7"
    ∷ codes "remove #8"
    ∷ codes "remove #9"
    ∷ codes "after #3 \"1\"#10 (b#11) (i#12) \"2\"#13 (b#14) (i#15)"
    ∷ codes "report 0 units 0 bodies 7 edits 1 log build made:1 made:2 made:3 made:4 made:5 made:6"
    ∷ codes "report 1 units 1 bodies 1 edits 6 log input:1 rerun:3 kept:4 removed:5 removed:6"
    ∷ codes "report 2 units 1 bodies 3 edits 1 log input:2 rerun:3 kept:4 made:7 made:8"
    ∷ []))

-- a handler that is one slot, in the place of a placeholder
abbrev pub lone_slots : Source
lone_slots =
    of_components
    (component [] (slot (ErrorBoundaryOf (use_alone 1 []) (Some (handed 2 []))))
    ∷ component (FailWith (words (codes "e")) ∷ []) NoViews
    ∷ component [] (slot (ListOf (number 2) (text_slot NearestError)))
    ∷ [])
    []

-- the row of templates that are equal across forms
abbrev pub LoneSlotRow : Type 0
LoneSlotRow =
    Prints
    lone_slots
    ((builds 5 ++ Rerun 4 ∷ Removed 5 ∷ []) ∷ [])
    (lines
    (codes "append #0 _#1"
    ∷ codes "replace #1 \"e\"#2"
    ∷ codes "after #2 \"e\"#3"
    ∷ codes "report 0 units 1 bodies 7 edits 3 log build made:1 made:2 made:3 made:4 made:5 rerun:4 removed:5"
    ∷ []))

-- a listener in the children of a boundary in a fragment
abbrev pub boxed : Source
boxed =
    with_actions
    (of_components
    (component [] (use_alone 1 [])
    ∷ component [] (slot (FragmentOf
    (slot (ErrorBoundaryOf (element_with (codes "b") (on (codes "onclick") 0 [] ∷ []) NoViews NoViews) None))))
    ∷ [])
    (event (codes "click") 1 ∷ []))
    ([] ∷ [])

-- the row of a listener's origin: the scope whose body made it
abbrev pub OriginRow : Type 0
OriginRow =
    Prints
    boxed
    (builds 6 ∷ (Taken 1 ∷ Heard 4 ∷ []) ∷ [])
    (lines
    (codes "append #0 (b#1 @onclick)"
    ∷ codes "report 0 units 0 bodies 7 edits 1 log build made:1 made:2 made:3 made:4 made:5 made:6"
    ∷ codes "report 1 units 0 bodies 0 edits 0 log input:1 heard:4"
    ∷ []))

-- a child that clears an error that isn't there
abbrev pub clears_nothing : Source
clears_nothing =
    with_actions
    (of_components
    (component [] (slot (ErrorBoundaryOf (use_alone 1 []) None))
    ∷ component [] (element_with (codes "b") (on (codes "onclick") 0 [] ∷ []) NoViews NoViews)
    ∷ [])
    (event (codes "click") 1 ∷ []))
    ((ClearError ∷ []) ∷ [])

-- the row of an empty error slot that is cleared
abbrev pub ClearRow : Type 0
ClearRow =
    Prints
    clears_nothing
    (builds 5 ∷ (Taken 1 ∷ Heard 5 ∷ Rerun 4 ∷ Kept 5 ∷ []) ∷ [])
    (lines
    (codes "append #0 (b#1 @onclick)"
    ∷ codes "report 0 units 0 bodies 6 edits 1 log build made:1 made:2 made:3 made:4 made:5"
    ∷ codes "report 1 units 1 bodies 1 edits 0 log input:1 heard:5 rerun:4 kept:5"
    ∷ []))

-- an element with a namespace, whose child has a static text
abbrev pub drawing : Source
drawing = of_components (component [] (ElementView (codes "g") (Some (codes "svg")) [] (text (codes "a\"b")) NoViews) ∷ []) []

-- the row of a namespace and of a quoted text
abbrev pub NamespaceRow : Type 0
NamespaceRow = Prints drawing (built ∷ []) (lines (codes "append #0 (svg:g#1 \"a\\\"b\"#2)" ∷ built_line ∷ []))
