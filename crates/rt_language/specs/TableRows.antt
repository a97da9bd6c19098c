-- Worked rows of the operators: one text for each case of their tables.
use Rattle.std.specs.Prelude.{negsuc, List, [], ◌∷◌, ◌++◌, codes}
use Rattle.rt_model.specs.Replay.{Entry, Taken, Rerun, Poll}
use Rattle.rt_language.specs.Syntax.{NumberLiteral, Expression, Say, Get, Read, Cat, Add, Multiply, Equal, Less, Not, IsAbsent, If, Parse, OwnScope, Generation, Payload, Me, Let, UseCell, View, SlotView, TextOf, Hole, MarkInput, Source}
use Rattle.rt_language.specs.Printed.{Prints}
use Rattle.rt_language.specs.Shorthand.{number, words, these, slot, spawns, component, of_components, with_tasks, built, lines}

-- the greatest and the least number
abbrev pub most : Expression
most = number 9223372036854775807

-- the least number
abbrev pub least : Expression
least = Say (NumberLiteral (negsuc 9223372036854775807))

-- minus 3
abbrev pub minus_three : Expression
minus_three = Say (NumberLiteral (negsuc 2))

-- a text of three characters, two of which JSON escapes
abbrev pub odd_text : Expression
odd_text = words (127 ∷ 1 ∷ 92 ∷ [])

-- a text slot for each expression, and a hole at the end
abbrev pub shown_all : List Expression → View
shown_all [] = slot Hole
shown_all (e ∷ es) = SlotView (TextOf e) (shown_all es)

-- a body with a cell, a task and a number, which shows these
abbrev pub shows_all : List Expression → Source
shows_all es =
    with_tasks
    (of_components (component (UseCell (number 0) ∷ spawns 0 [] ∷ Let (number 1) ∷ []) (shown_all es) ∷ []) (MarkInput 3 ∷ []))
    ([] ∷ [])

-- the log of such a body
abbrev pub polled_and_marked : List (List Entry)
polled_and_marked = (built ++ Poll 1 ∷ []) ∷ (Taken 1 ∷ Rerun 3 ∷ []) ∷ []

-- the row of sums, products, comparisons and tests
abbrev pub NumberRow : Type 0
NumberRow =
    Prints
    (shows_all
    (Add most (number 1)
    ∷ Multiply least (number 2)
    ∷ Add (words (codes "a")) (number 1)
    ∷ Less (number 1) (number 2)
    ∷ Less (words (codes "a")) (words (codes "b"))
    ∷ Equal (Parse (words [])) (Parse (words (codes "x")))
    ∷ Equal (number 1) (words (codes "1"))
    ∷ Not (words (codes "x"))
    ∷ Not (number 2)
    ∷ IsAbsent Payload
    ∷ []))
    polled_and_marked
    (lines
    ((codes "append #0 \"9223372036854775807\"#1 \"-9223372036854775808\"#2 \"\"#3"
    ++ codes " \"1\"#4 \"\"#5 \"1\"#6 \"0\"#7 \"1\"#8 \"0\"#9 \"1\"#10 _#11")
    ∷ codes "report 0 units 1 bodies 4 edits 1 log build made:1 made:2 made:3 poll:1"
    ∷ codes "report 1 units 1 bodies 1 edits 0 log input:1 rerun:3"
    ∷ []))

-- the row of numbers that texts write
abbrev pub ParseRow : Type 0
ParseRow =
    Prints
    (shows_all
    (Parse (words (codes "-007"))
    ∷ Parse (words (codes "-"))
    ∷ Parse (words (codes "+1"))
    ∷ Parse (words (codes "9223372036854775808"))
    ∷ Parse (words (codes "-9223372036854775808"))
    ∷ Parse (number 5)
    ∷ []))
    polled_and_marked
    (lines
    (codes "append #0 \"-7\"#1 \"\"#2 \"\"#3 \"\"#4 \"-9223372036854775808\"#5 \"\"#6 _#7"
    ∷ codes "report 0 units 1 bodies 4 edits 1 log build made:1 made:2 made:3 poll:1"
    ∷ codes "report 1 units 1 bodies 1 edits 0 log input:1 rerun:3"
    ∷ []))

-- the row of joined texts, and of what a body is given
abbrev pub GivenRow : Type 0
GivenRow =
    Prints
    (shows_all
    (Cat (these (Get 0 ∷ Me ∷ minus_three ∷ Get 1 ∷ odd_text ∷ []))
    ∷ OwnScope
    ∷ Generation
    ∷ Read 2
    ∷ Get 0
    ∷ If (words (codes "x")) (number 1) (number 2)
    ∷ []))
    polled_and_marked
    (lines
    ((codes "append #0 \"1-31" ++ 127 ∷ codes "\\u0001\\\\\"#1 \"3\"#2 \"0\"#3 \"\"#4 \"1\"#5 \"2\"#6 _#7")
    ∷ codes "text #3 \"1\""
    ∷ codes "report 0 units 1 bodies 4 edits 1 log build made:1 made:2 made:3 poll:1"
    ∷ codes "report 1 units 1 bodies 1 edits 1 log input:1 rerun:3"
    ∷ []))
