-- Worked rows of events that don't bubble, and of defaults that are prevented.
use Rattle.std.specs.Prelude.{codes, [], ◌∷◌, pos, negsuc, Some, None, true, false, ◌≡◌}
use Rattle.rt_model.specs.Replay.{Taken, Heard, Rerun, Effects}
use Rattle.rt_language.specs.Syntax.{Cat, EffectOf, EventInput, Get, NoViews, Prevent, Read, Stop, UseCell, WakeInput, WriteTo, Source}
use Rattle.rt_language.specs.Printed.{Prints}
use Rattle.lang_rows.specs.Begun.{defaults_of}
use Rattle.rt_language.specs.Shorthand.{words, these, text, text_slot, component, of_components, with_actions, on, element_with, event, built, lines}

-- an element with two listeners of an event, inside one with a listener
abbrev pub two_hear : Source
two_hear =
    with_actions (of_components (component (UseCell (words []) ∷ []) (element_with (codes "div") (on (codes "onclick") 0 (Get 0 ∷ words
    (codes "o") ∷ []) ∷ []) (element_with (codes "b") (on (codes "onclick") 0 (Get 0 ∷ words (codes "i") ∷ []) ∷ on (codes "xxclick") 1
    (Get 0 ∷ words (codes "j") ∷ []) ∷ []) (text (codes "t")) NoViews) (text_slot (Read 0))) ∷ []) (EventInput (codes "click") 2 None
    (Some (pos 0)) ∷ EventInput (codes "click") 2 None (Some (pos 1)) ∷ EventInput (codes "click") 3 None (Some (pos 0)) ∷ EventInput
    (codes "click") 3 None (Some (negsuc 0)) ∷ [])) ((WriteTo 0 (Cat (these (Read 0 ∷ Get 1 ∷ []))) ∷ []) ∷ (WriteTo 0 (Cat (these (Read 0
    ∷ Get 1 ∷ []))) ∷ Stop ∷ []) ∷ [])

-- the row of events: 0 alone keeps one from bubbling, and stopping ends only one that bubbles
abbrev pub BubblingRow : Type 0
BubblingRow =
    Prints two_hear (built ∷ (Taken 1 ∷ Heard 3 ∷ Heard 3 ∷ Rerun 3 ∷ []) ∷ (Taken 2 ∷ Heard 3 ∷ Rerun 3 ∷ []) ∷ (Taken 3 ∷ []) ∷ (Taken 4
    ∷ Heard 3 ∷ Rerun 3 ∷ []) ∷ [])
    (lines
    (codes "append #0 (div#1 @onclick (b#2 @onclick @xxclick \"t\"#3)) \"\"#4"
    ∷ codes "text #4 \"ij\""
    ∷ codes "text #4 \"ijj\""
    ∷ codes "text #4 \"ijjj\""
    ∷ codes "report 0 units 0 bodies 4 edits 1 log build made:1 made:2 made:3"
    ∷ codes "report 1 units 1 bodies 1 edits 1 log input:1 heard:3 heard:3 rerun:3"
    ∷ codes "report 2 units 1 bodies 1 edits 1 log input:2 heard:3 rerun:3"
    ∷ codes "report 3 units 0 bodies 0 edits 0 log input:3"
    ∷ codes "report 4 units 1 bodies 1 edits 1 log input:4 heard:3 rerun:3"
    ∷ []))

-- an element whose listener prevents the default, inside one that doesn't
abbrev pub prevents : Source
prevents =
    with_actions (of_components (component (UseCell (words []) ∷ []) (element_with (codes "div") (on (codes "onclick") 1 [] ∷ on (codes
    "onkey") 2 [] ∷ []) (element_with (codes "b") (on (codes "onclick") 0 [] ∷ []) NoViews NoViews) NoViews) ∷ []) (event (codes "click")
    2 ∷ event (codes "click") 1 ∷ EventInput (codes "click") 2 None (Some (pos 0)) ∷ WakeInput 9 ∷ event (codes "key") 2 ∷ [])) ((Prevent
    ∷ []) ∷ [] ∷ (EffectOf 0 (these []) ∷ []) ∷ [])

-- the row of events whose default may be prevented
abbrev pub PreventRow : Type 0
PreventRow =
    Prints prevents (built ∷ (Taken 1 ∷ Heard 3 ∷ Heard 3 ∷ []) ∷ (Taken 2 ∷ Heard 3 ∷ []) ∷ (Taken 3 ∷ Heard 3 ∷ []) ∷ (Taken 4 ∷ []) ∷
    (Taken 5 ∷ Heard 3 ∷ Effects 3 ∷ []) ∷ [])
    (lines
    (codes "append #0 (div#1 @onclick @onkey (b#2 @onclick))"
    ∷ codes "report 0 units 0 bodies 4 edits 1 log build made:1 made:2 made:3"
    ∷ codes "report 1 units 0 bodies 0 edits 0 log input:1 heard:3 heard:3"
    ∷ codes "report 2 units 0 bodies 0 edits 0 log input:2 heard:3"
    ∷ codes "report 3 units 0 bodies 0 edits 0 log input:3 heard:3"
    ∷ codes "report 4 units 0 bodies 0 edits 0 log input:4"
    ∷ codes "report 5 units 1 bodies 0 edits 0 log input:5 heard:3 effects:3"
    ∷ []))

-- which reports say that the default isn't prevented: of a bubbling event one listener is enough, and no effect prevents anything
abbrev pub DefaultRow : Type 0
DefaultRow =
    defaults_of prevents (built ∷ (Taken 1 ∷ Heard 3 ∷ Heard 3 ∷ []) ∷ (Taken 2 ∷ Heard 3 ∷ []) ∷ (Taken 3 ∷ Heard 3 ∷ []) ∷ (Taken 4 ∷
    []) ∷ (Taken 5 ∷ Heard 3 ∷ Effects 3 ∷ []) ∷ [])
    ≡
    Some (true ∷ false ∷ true ∷ false ∷ true ∷ true ∷ [])
