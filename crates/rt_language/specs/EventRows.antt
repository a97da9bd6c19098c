-- Worked rows of fragments, of events, and of inputs that change nothing.
use Rattle.std.specs.Prelude.{pos, List, [], ◌∷◌, Some, None, codes}
use Rattle.rt_model.specs.Lists.{Text}
use Rattle.rt_model.specs.Replay.{Taken, Heard, Rerun, Made, Fed, Kept}
use Rattle.rt_language.specs.Syntax.{NumberLiteral, Get, Read, Cat, Add, Statement, UseCell, WriteTo, Stop, NoViews, TextView, ListOf, PostAll, InputSource, EventInput, WakeInput, WriteInput, MarkInput, DrainInput, Source}
use Rattle.rt_language.specs.Printed.{Prints}
use Rattle.rt_language.specs.Shorthand.{number, words, these, slot, text_slot, element, element_with, text, use_alone, component, of_components, with_actions, on, write_number, event, built, built_line, lines}
use Rattle.rt_language.specs.FirstRows.{hello_world}

-- as many list items as the cell says
abbrev pub listing : Source
listing =
    of_components
    (component
    (UseCell (number 3) ∷ [])
    (element (codes "ul") (slot (ListOf (Read 0) (element (codes "li") (text_slot (Get 1))))))
    ∷ [])
    (write_number 1 0 ∷ write_number 1 2 ∷ [])

-- the row of a fragment of three items, of none, of two
abbrev pub FragmentRow : Type 0
FragmentRow =
    Prints
    listing
    (built ∷ (Taken 1 ∷ Rerun 3 ∷ []) ∷ (Taken 2 ∷ Rerun 3 ∷ []) ∷ [])
    (lines
    (codes "append #0 (ul#1 (li#2 \"0\"#3) (li#4 \"1\"#5) (li#6 \"2\"#7))"
    ∷ codes "replace #2 _#8"
    ∷ codes "remove #4"
    ∷ codes "remove #6"
    ∷ codes "replace #8 (li#9 \"0\"#10) (li#11 \"1\"#12)"
    ∷ built_line
    ∷ codes "report 1 units 1 bodies 1 edits 3 log input:1 rerun:3"
    ∷ codes "report 2 units 1 bodies 1 edits 1 log input:2 rerun:3"
    ∷ []))

-- a button that adds an item to a list
abbrev pub to_do : Source
to_do =
    with_actions
    (of_components
    (component
    (UseCell (number 0) ∷ [])
    (element_with
    (codes "button")
    (on (codes "onclick") 0 (Get 0 ∷ []) ∷ [])
    (text (codes "add"))
    (element (codes "ul") (slot (ListOf (Read 0) (use_alone 1 (Get 1 ∷ []))))))
    ∷ component [] (element (codes "li") (text_slot (Cat (these (words (codes "item ") ∷ Get 0 ∷ [])))))
    ∷ [])
    (event (codes "click") 1 ∷ event (codes "click") 1 ∷ []))
    ((WriteTo 0 (Add (Read 0) (number 1)) ∷ []) ∷ [])

-- the row of a list that grows
abbrev pub ToDoRow : Type 0
ToDoRow =
    Prints
    to_do
    (built ∷ (Taken 1 ∷ Heard 3 ∷ Rerun 3 ∷ Made 4 ∷ []) ∷ (Taken 2 ∷ Heard 3 ∷ Rerun 3 ∷ Kept 4 ∷ Made 5 ∷ []) ∷ [])
    (lines
    (codes "append #0 (button#1 @onclick \"add\"#2) (ul#3 _#4)"
    ∷ codes "replace #4 (li#5 \"item 0\"#6)"
    ∷ codes "after #5 (li#7 \"item 1\"#8)"
    ∷ built_line
    ∷ codes "report 1 units 1 bodies 2 edits 1 log input:1 heard:3 rerun:3 made:4"
    ∷ codes "report 2 units 1 bodies 2 edits 1 log input:2 heard:3 rerun:3 kept:4 made:5"
    ∷ []))

-- listeners inside one another, which append a letter and then do more
abbrev pub letters : List Statement → List InputSource → Source
letters more inputs =
    with_actions
    (of_components
    (component
    (UseCell (words []) ∷ [])
    (element_with
    (codes "div")
    (on (codes "onclick") 0 (Get 0 ∷ words (codes "o") ∷ []) ∷ [])
    (TextView
    (codes "x")
    (element_with
    (codes "b")
    (on (codes "onclick") 0 (Get 0 ∷ words (codes "i") ∷ []) ∷ [])
    (text_slot (Read 0))
    (element_with (codes "i") (on (codes "on") 0 (Get 0 ∷ words (codes "e") ∷ []) ∷ []) NoViews NoViews)))
    NoViews)
    ∷ [])
    inputs)
    ((WriteTo 0 (Cat (these (Read 0 ∷ Get 1 ∷ []))) ∷ more) ∷ [])

-- the document of the letters
abbrev pub letters_line : Text
letters_line = codes "append #0 (div#1 @onclick \"x\"#2 (b#3 @onclick \"\"#4) (i#5 @on))"

-- the row of events, and who hears them
abbrev pub EventRow : Type 0
EventRow =
    Prints
    (letters
    []
    (event (codes "click") 3
    ∷ event (codes "onclick") 3
    ∷ event (codes "click") 1
    ∷ EventInput (codes "click") 3 None (Some (pos 0))
    ∷ event [] 5
    ∷ []))
    (built
    ∷ (Taken 1 ∷ Heard 3 ∷ Heard 3 ∷ Rerun 3 ∷ [])
    ∷ (Taken 2 ∷ [])
    ∷ (Taken 3 ∷ Heard 3 ∷ Rerun 3 ∷ [])
    ∷ (Taken 4 ∷ Heard 3 ∷ Rerun 3 ∷ [])
    ∷ (Taken 5 ∷ Heard 3 ∷ Rerun 3 ∷ [])
    ∷ [])
    (lines
    (letters_line
    ∷ codes "text #4 \"io\""
    ∷ codes "text #4 \"ioo\""
    ∷ codes "text #4 \"iooi\""
    ∷ codes "text #4 \"iooie\""
    ∷ built_line
    ∷ codes "report 1 units 1 bodies 1 edits 1 log input:1 heard:3 heard:3 rerun:3"
    ∷ codes "report 2 units 0 bodies 0 edits 0 log input:2"
    ∷ codes "report 3 units 1 bodies 1 edits 1 log input:3 heard:3 rerun:3"
    ∷ codes "report 4 units 1 bodies 1 edits 1 log input:4 heard:3 rerun:3"
    ∷ codes "report 5 units 1 bodies 1 edits 1 log input:5 heard:3 rerun:3"
    ∷ []))

-- the row of an event that the inner listener stops
abbrev pub StoppedRow : Type 0
StoppedRow =
    Prints
    (letters (Stop ∷ []) (event (codes "click") 3 ∷ []))
    (built ∷ (Taken 1 ∷ Heard 3 ∷ Rerun 3 ∷ []) ∷ [])
    (lines
    (letters_line
    ∷ codes "text #4 \"i\""
    ∷ built_line
    ∷ codes "report 1 units 1 bodies 1 edits 1 log input:1 heard:3 rerun:3"
    ∷ []))

-- the row of a message that marks all scopes
abbrev pub AllDirtyRow : Type 0
AllDirtyRow =
    Prints
    (record hello_world { inputs = DrainInput (PostAll ∷ []) ∷ [] })
    (built ∷ (Taken 1 ∷ Rerun 0 ∷ Kept 1 ∷ Rerun 1 ∷ Fed 2 ∷ Kept 3 ∷ Rerun 3 ∷ []) ∷ [])
    (lines
    (codes "append #0 (div#1 \"hello world\"#2)"
    ∷ built_line
    ∷ codes "report 1 units 3 bodies 4 edits 0 log input:1 rerun:0 kept:1 rerun:1 fed:2 kept:3 rerun:3"
    ∷ []))

-- the row of inputs that name nothing
abbrev pub NamelessRow : Type 0
NamelessRow =
    Prints
    (record hello_world {
      inputs = event (codes "click") 99 ∷ WakeInput 99 ∷ WriteInput 99 (NumberLiteral (pos 1)) ∷ MarkInput 99 ∷ [];
    })
    (built ∷ (Taken 1 ∷ []) ∷ (Taken 2 ∷ []) ∷ (Taken 3 ∷ []) ∷ (Taken 4 ∷ []) ∷ [])
    (lines
    (codes "append #0 (div#1 \"hello world\"#2)"
    ∷ built_line
    ∷ codes "report 1 units 0 bodies 0 edits 0 log input:1"
    ∷ codes "report 2 units 0 bodies 0 edits 0 log input:2"
    ∷ codes "report 3 units 0 bodies 0 edits 0 log input:3"
    ∷ codes "report 4 units 0 bodies 0 edits 0 log input:4"
    ∷ []))
