-- Worked rows of tasks by their kinds and of frozen boundaries, in sessions and in suspended renders.
use Rattle.std.specs.Prelude.{codes, [], ◌∷◌, ◌++◌, None, true, ◌≡◌}
use Rattle.rt_model.specs.Replay.{Taken, Rerun, Poll, Kept}
use Rattle.rt_language.specs.Syntax.{Cat, Forever, FreezeBoundary, Get, Isomorphic, Me, NoViews, Read, SpawnTask, Stay, SuspendOn, SuspenseBoundaryOf, UseCell, WakeInput, WriteTo, Source}
use Rattle.rt_language.specs.Printed.{Prints}
use Rattle.lang_rows.specs.Renders.{first_render, render_again, rendered_to, wakes, writes}
use Rattle.rt_language.specs.Shorthand.{number, words, these, slot, text_slot, component, of_components, with_tasks, use_alone, spawns, write_number, builds, built, lines}

-- a root with a task of each kind, each of which tells its polls
abbrev pub tells_polls : Source
tells_polls =
    with_tasks (of_components (component (UseCell (words []) ∷ spawns 0 (Get 0 ∷ []) ∷ SpawnTask 0 (these (Get 0 ∷ [])) Isomorphic ∷
    SpawnTask 0 (these (Get 0 ∷ [])) Forever ∷ []) (text_slot (Read 0)) ∷ []) (WakeInput 1 ∷ WakeInput 2 ∷ WakeInput 3 ∷ [])) (((WriteTo 0
    (Cat (these (Read 0 ∷ Me ∷ []))) ∷ Stay ∷ []) ∷ []) ∷ [])

-- the row of a session, which polls tasks of each kind
abbrev pub KindsRow : Type 0
KindsRow =
    Prints tells_polls ((built ++ Poll 3 ∷ Poll 1 ∷ Poll 2 ∷ Rerun 3 ∷ []) ∷ (Taken 1 ∷ Poll 1 ∷ Rerun 3 ∷ []) ∷ (Taken 2 ∷ Poll 2 ∷ Rerun
    3 ∷ []) ∷ (Taken 3 ∷ Poll 3 ∷ Rerun 3 ∷ []) ∷ [])
    (lines
    (codes "append #0 \"\"#1"
    ∷ codes "text #1 \"312\""
    ∷ codes "text #1 \"3121\""
    ∷ codes "text #1 \"31212\""
    ∷ codes "text #1 \"312123\""
    ∷ codes "report 0 units 4 bodies 5 edits 2 log build made:1 made:2 made:3 poll:3 poll:1 poll:2 rerun:3"
    ∷ codes "report 1 units 2 bodies 1 edits 1 log input:1 poll:1 rerun:3"
    ∷ codes "report 2 units 2 bodies 1 edits 1 log input:2 poll:2 rerun:3"
    ∷ codes "report 3 units 2 bodies 1 edits 1 log input:3 poll:3 rerun:3"
    ∷ []))

-- a child that freezes the boundary above it
abbrev pub freezes : Source
freezes =
    of_components (component [] (slot (SuspenseBoundaryOf (use_alone 1 []) None)) ∷ component (UseCell (number 0) ∷ FreezeBoundary ∷ [])
    (text_slot (Read 0)) ∷ []) (write_number 1 5 ∷ [])

-- the row of a session, which reruns what is below a frozen boundary
abbrev pub FrozenRow : Type 0
FrozenRow =
    Prints freezes ((builds 5) ∷ (Taken 1 ∷ Rerun 5 ∷ []) ∷ [])
    (lines
    (codes "append #0 \"0\"#1"
    ∷ codes "text #1 \"5\""
    ∷ codes "report 0 units 0 bodies 6 edits 1 log build made:1 made:2 made:3 made:4 made:5"
    ∷ codes "report 1 units 1 bodies 1 edits 1 log input:1 rerun:5"
    ∷ []))

-- a child that suspends on the second of its two tasks
abbrev pub suspends_on_one : Source
suspends_on_one =
    with_tasks (of_components (component (UseCell (words []) ∷ []) (slot (SuspenseBoundaryOf (use_alone 1 (Get 0 ∷ [])) None)) ∷ component
    (spawns 0 (Get 0 ∷ []) ∷ spawns 0 (Get 0 ∷ []) ∷ SuspendOn 2 ∷ []) NoViews ∷ []) []) (((WriteTo 0 (Cat (these (Read 0 ∷ Me ∷ []))) ∷
    Stay ∷ []) ∷ []) ∷ [])

-- the row of a session, which polls both
abbrev pub TwoTasksRow : Type 0
TwoTasksRow =
    Prints suspends_on_one ((builds 5 ++ Rerun 4 ∷ Kept 5 ∷ Poll 1 ∷ Poll 2 ∷ []) ∷ [])
    (lines
    (codes "append #0 _#2"
    ∷ codes "report 0 units 3 bodies 7 edits 1 log build made:1 made:2 made:3 made:4 made:5 rerun:4 kept:5 poll:1 poll:2"
    ∷ []))

-- a suspended render polls the isomorphic task alone; the others are dropped, and nothing is owed then
abbrev pub IsomorphicRow : Type 0
IsomorphicRow =
    (rendered_to (first_render tells_polls built (Poll 2 ∷ Rerun 3 ∷ [])) (1 ∷ []) [] ≡ true)
    ×
    (rendered_to
    (render_again tells_polls (wakes (1 ∷ 2 ∷ 3 ∷ [])) (first_render tells_polls built (Poll 2 ∷ Rerun 3 ∷ [])) (Poll 2 ∷ Rerun 3 ∷ []))
    []
    []
    ≡
    true)

-- of a client's two tasks the one that holds a boundary is polled
abbrev pub SuspendedTaskRow : Type 0
SuspendedTaskRow = rendered_to (first_render suspends_on_one (builds 5) (Rerun 4 ∷ Kept 5 ∷ Poll 2 ∷ [])) (1 ∷ []) [] ≡ true

-- below a frozen boundary nothing is rerun, and what is passed over is listed
abbrev pub FrozenRenderRow : Type 0
FrozenRenderRow =
    (rendered_to (first_render freezes (builds 5) []) (1 ∷ 4 ∷ []) [] ≡ true)
    ×
    (rendered_to (render_again freezes (writes 1 5) (first_render freezes (builds 5) []) []) [] (5 ∷ []) ≡ true)
