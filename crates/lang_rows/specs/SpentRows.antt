-- Worked rows of counters that are at their ends, or next to them.
use Rattle.std.specs.Prelude.{codes, [], ◌∷◌, ◌++◌, Some, None, ℕ, ◌-◌, Option, ◌≡◌}
use Rattle.rt_model.specs.Replay.{Taken, Rerun, Poll, Made, Machine, start, replay_on}
use Rattle.rt_model.specs.World.{Contexts, last_number}
use Rattle.rt_model.specs.State.{Fault, IdsExhausted, change}
use Rattle.rt_model.specs.Program.{application_of}
use Rattle.rt_model.specs.Causes.{refusal, usual}
use Rattle.rt_model.specs.Rendering.{at_state}
use Rattle.rt_model.specs.Small.{R}
use Rattle.rt_model.specs.RenderRows.{memo}
use Rattle.rt_language.specs.Syntax.{ErrorBoundaryOf, FailWith, Get, ListOf, MarkInput, NoViews, Read, SlotView, TextOf, UseCell, Source}
use Rattle.lang_rows.specs.Begun.{begun, built_then, text_from}
use Rattle.rt_language.specs.Shorthand.{number, words, text, slot, text_slot, use_before, component, of_components, with_tasks, use_alone, spawns, write_number, builds, built, lines}

-- two cells
abbrev pub two_cells : Source
two_cells =
    of_components (component (UseCell (number 1) ∷ UseCell (number 2) ∷ []) (text_slot (Read 0)) ∷ []) []

-- the row of cells, of which there is no number
abbrev pub NoCellRow : Type 0
NoCellRow =
    text_from two_cells (begun (λ n. record n { cells = last_number }) two_cells) [] built
    ≡
    Some
    (lines
    (codes "fault 5 IdsExhausted cells"
    ∷ []))

-- the row of cells, of which there is one number
abbrev pub OneCellRow : Type 0
OneCellRow =
    text_from two_cells (begun (λ n. record n { cells = last_number - 1 }) two_cells) [] built
    ≡
    Some
    (lines
    (codes "fault 5 IdsExhausted cells"
    ∷ []))

-- two tasks
abbrev pub two_tasks : Source
two_tasks =
    with_tasks (of_components (component (spawns 0 [] ∷ spawns 0 [] ∷ []) (text (codes "x")) ∷ []) []) ([] ∷ [])

-- the row of tasks, of which there is one number
abbrev pub OneTaskRow : Type 0
OneTaskRow =
    text_from two_tasks (begun (λ n. record n { tasks = last_number - 1 }) two_tasks) [] built
    ≡
    Some
    (lines
    (codes "fault 5 IdsExhausted tasks"
    ∷ []))

-- two bodies that fail
abbrev pub two_fail : Source
two_fail =
    of_components (component [] (slot (ErrorBoundaryOf (use_before 1 [] (use_alone 1 [])) None)) ∷ component (FailWith (words (codes "e"))
    ∷ []) NoViews ∷ []) []

-- the row of errors, of which there is one serial number
abbrev pub OneErrorRow : Type 0
OneErrorRow =
    text_from two_fail (begun (λ n. record n { errors = last_number - 1 }) two_fail) [] (builds 6)
    ≡
    Some
    (lines
    (codes "fault 5 IdsExhausted errors"
    ∷ []))

-- a list of one text that grows to three
abbrev pub grows : Source
grows =
    of_components (component (UseCell (number 1) ∷ []) (slot (ListOf (Read 0) (text_slot (Get 1)))) ∷ []) (write_number 1 3 ∷ [])

-- the row of nodes, of which there are two numbers
abbrev pub TwoElementsRow : Type 0
TwoElementsRow =
    text_from grows (begun (λ n. record n { elements = last_number - 2 }) grows) (built ∷ []) (Taken 1 ∷ Rerun 3 ∷ [])
    ≡
    Some
    (lines
    (codes "append #0 \"0\"#18446744073709551613"
    ∷ codes "report 0 units 0 bodies 4 edits 1 log build made:1 made:2 made:3"
    ∷ codes "fault 5 IdsExhausted elements"
    ∷ []))

-- a list of no component that grows to two
abbrev pub makes_two : Source
makes_two =
    of_components (component (UseCell (number 0) ∷ []) (SlotView (TextOf (Read 0)) (slot (ListOf (Read 0) (use_alone 1 [])))) ∷ component
    [] (text (codes "k")) ∷ []) (write_number 1 2 ∷ [])

-- the row of scopes, of which there is one number after the build; the log ends with the make that is refused
abbrev pub OneScopeRow : Type 0
OneScopeRow =
    text_from makes_two (built_then (λ w. record w { next_scope = last_number - 1 }) makes_two) [] (Taken 1 ∷ Rerun 3 ∷ Made
    18446744073709551614 ∷ Made 18446744073709551615 ∷ [])
    ≡
    Some
    (lines
    (codes "text #1 \"2\""
    ∷ codes "fault 5 IdsExhausted scopes"
    ∷ []))

-- a root that is marked
abbrev pub marked : Source
marked =
    of_components (component (UseCell (number 1) ∷ UseCell (number 2) ∷ []) (text_slot (Read 0)) ∷ []) (MarkInput 3 ∷ [])

-- the row of a render count that is at its end
abbrev pub RenderRow : Type 0
RenderRow =
    text_from marked (built_then (λ w. change w 3 (λ x. record x { renders = last_number })) marked) [] (Taken 1 ∷ Rerun 3 ∷ [])
    ≡
    Some
    (lines
    (codes "fault 5 IdsExhausted renders"
    ∷ []))

-- the memo of a task, which draws a reactive context at its first poll
abbrev pub memo_at : ℕ → Option (Machine R)
memo_at first =
    let m : Machine R = start (application_of memo) [] [] in
    replay_on
    (application_of memo)
    (Some (at_state m (record (m.state) { next = record ((m.state).next) { contexts = first } })))
    (built ++ Poll 1 ∷ [])

-- the fault that a replay has come to
abbrev pub fault_at : Option (Machine R) → Option Fault
fault_at None = None
fault_at (Some m) = refusal usual m

-- the row of reactive contexts: at its end the counter is named, before it a context is drawn
abbrev pub NoContextRow : Type 0
NoContextRow = (fault_at (memo_at last_number) ≡ Some (IdsExhausted Contexts)) × (fault_at (memo_at (last_number - 1)) ≡ None)
