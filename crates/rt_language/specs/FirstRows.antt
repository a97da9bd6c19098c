-- Worked rows of a first build, of props, of reads and of attributes.
use Rattle.std.specs.Prelude.{[], ◌∷◌, codes}
use Rattle.rt_model.specs.Lists.{Text}
use Rattle.rt_model.specs.Replay.{Taken, Rerun, Made}
use Rattle.rt_language.specs.Syntax.{TextLiteral, Get, Read, Cat, Equal, If, Parse, Let, UseCell, When, StaticAttribute, SlotAttribute, NoViews, SlotView, TextOf, ListOf, Source}
use Rattle.rt_language.specs.Printed.{Prints}
use Rattle.rt_language.specs.Shorthand.{number, words, these, steps, slot, use_alone, text_slot, element, element_with, text, component, of_components, write_number, write_text, built, built_line, lines}

-- a static element with a text
abbrev pub hello_world : Source
hello_world = of_components (component [] (element (codes "div") (text (codes "hello world"))) ∷ []) []

-- the row of a static element
abbrev pub StaticRow : Type 0
StaticRow = Prints hello_world (built ∷ []) (lines (codes "append #0 (div#1 \"hello world\"#2)" ∷ built_line ∷ []))

-- a text with a prop in it
abbrev pub hello : Text → Source
hello name =
    record (of_components (component [] (element (codes "div") (text_slot (Cat (these (words (codes "hello ") ∷ Get 0 ∷ []))))) ∷ []) []) {
      props = TextLiteral name ∷ [];
    }

-- the row of a prop
abbrev pub PropRow : Type 0
PropRow =
    Prints
    (hello (codes "world"))
    (built ∷ [])
    (lines (codes "append #0 (div#1 \"hello world\"#2)" ∷ built_line ∷ []))

-- the same with another prop
abbrev pub OtherPropRow : Type 0
OtherPropRow =
    Prints
    (hello (codes "jane"))
    (built ∷ [])
    (lines (codes "append #0 (div#1 \"hello jane\"#2)" ∷ built_line ∷ []))

-- a body that reads a second cell only where the first one is true
abbrev pub reads_by_condition : Source
reads_by_condition =
    of_components
    (component (UseCell (number 0) ∷ UseCell (number 0) ∷ []) (text_slot (If (Read 0) (Read 1) (number 0))) ∷ [])
    (write_number 2 5 ∷ write_number 1 1 ∷ write_number 2 6 ∷ write_number 1 0 ∷ write_number 2 7 ∷ [])

-- the row of conditional reads
abbrev pub ConditionRow : Type 0
ConditionRow =
    Prints
    reads_by_condition
    (built ∷ (Taken 1 ∷ []) ∷ (Taken 2 ∷ Rerun 3 ∷ []) ∷ (Taken 3 ∷ Rerun 3 ∷ []) ∷ (Taken 4 ∷ Rerun 3 ∷ []) ∷ (Taken 5 ∷ []) ∷ [])
    (lines
    (codes "append #0 \"0\"#1"
    ∷ codes "text #1 \"5\""
    ∷ codes "text #1 \"6\""
    ∷ codes "text #1 \"0\""
    ∷ built_line
    ∷ codes "report 1 units 0 bodies 0 edits 0 log input:1"
    ∷ codes "report 2 units 1 bodies 1 edits 1 log input:2 rerun:3"
    ∷ codes "report 3 units 1 bodies 1 edits 1 log input:3 rerun:3"
    ∷ codes "report 4 units 1 bodies 1 edits 1 log input:4 rerun:3"
    ∷ codes "report 5 units 0 bodies 0 edits 0 log input:5"
    ∷ []))

-- an element with a static attribute, and one that goes where a text is empty
abbrev pub titled : Source
titled =
    of_components
    (component
    (UseCell (words (codes "x")) ∷ [])
    (element_with
    (codes "p")
    (StaticAttribute (codes "id") (codes "k") ∷ SlotAttribute (codes "title") (If (Equal (Read 0) (words [])) (Parse (words [])) (Read 0))
    ∷ [])
    NoViews
    NoViews)
    ∷ [])
    (write_text 1 [] ∷ write_text 1 (codes "y") ∷ [])

-- the row of an attribute that goes and comes
abbrev pub AttributeRow : Type 0
AttributeRow =
    Prints
    titled
    (built ∷ (Taken 1 ∷ Rerun 3 ∷ []) ∷ (Taken 2 ∷ Rerun 3 ∷ []) ∷ [])
    (lines
    (codes "append #0 (p#1 id=\"k\" title=\"x\")"
    ∷ codes "attr #1 title none"
    ∷ codes "attr #1 title=\"y\""
    ∷ built_line
    ∷ codes "report 1 units 1 bodies 1 edits 1 log input:1 rerun:3"
    ∷ codes "report 2 units 1 bodies 1 edits 1 log input:2 rerun:3"
    ∷ []))

-- a name that is bound in a block, and one that is bound after it
abbrev pub binds_in_a_block : Source
binds_in_a_block =
    of_components (component (When (number 1) (steps (Let (number 5) ∷ [])) ∷ Let (number 7) ∷ []) (text_slot (Get 0)) ∷ []) []

-- the row of a name that ends with its block
abbrev pub BlockRow : Type 0
BlockRow = Prints binds_in_a_block (built ∷ []) (lines (codes "append #0 \"7\"#1" ∷ built_line ∷ []))

-- a parent with a cell, and children whose cells show their numbers
abbrev pub shows_cell_numbers : Source
shows_cell_numbers =
    of_components
    (component (UseCell (number 0) ∷ []) (SlotView (TextOf (Read 0)) (slot (ListOf (Read 0) (use_alone 1 []))))
    ∷ component (UseCell (number 5) ∷ []) (text_slot (Get 0))
    ∷ [])
    (write_number 1 1 ∷ [])

-- the row of a cell that is made in its body's first run alone
abbrev pub CellOnceRow : Type 0
CellOnceRow =
    Prints
    shows_cell_numbers
    (built ∷ (Taken 1 ∷ Rerun 3 ∷ Made 4 ∷ []) ∷ [])
    (lines
    (codes "append #0 \"0\"#1 _#2"
    ∷ codes "text #1 \"1\""
    ∷ codes "replace #2 \"2\"#3"
    ∷ built_line
    ∷ codes "report 1 units 1 bodies 2 edits 2 log input:1 rerun:3 made:4"
    ∷ []))
