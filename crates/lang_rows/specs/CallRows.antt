-- Worked rows of what a program asks of a runtime that it keeps: marks, polls, first numbers, contexts, places; and of counted calls.
use Rattle.std.specs.Prelude.{ℕ, Bool, true, false, ◌&&◌, not, nat_eq, List, [], ◌∷◌, ◌++◌, Option, Some, None, ◌≡◌, is_some, codes}
use Rattle.rt_model.specs.Lists.{at, same_numbers, same_list, same_option}
use Rattle.rt_model.specs.Tree.{inside, item, Place}
use Rattle.rt_model.specs.World.{Tasks, last_number}
use Rattle.rt_model.specs.State.{Mark, Woken, Fault, OutOfTurns, IdsExhausted, Posted, State, Outcome, Done, Cut}
use Rattle.rt_model.specs.Commands.{post, same_posted, activated}
use Rattle.rt_model.specs.Next.{owes, is_active, seen_in_order}
use Rattle.rt_model.specs.Replay.{Entry, Taken, Rerun, Poll, Fed, Kept, Removed, Machine, ones, replay_on, start_with, polled_now, ready_now, effects_apart}
use Rattle.rt_model.specs.Causes.{usual, refusal}
use Rattle.rt_model.specs.Rendering.{suspended_remains, polls_on, renders_within, rendering_refusal}
use Rattle.rt_model.specs.Sentences.{all_marked_now}
use Rattle.rt_model.specs.Bodies.{RerunInTurn, calls_meant}
use Rattle.rt_model.specs.Queries.{Standing, node_place, provided_above, is_descendant}
use Rattle.rt_language.specs.Syntax.{WakeInput, Source}
use Rattle.rt_language.specs.Values.{Value, TextValue, same_value}
use Rattle.rt_language.specs.Expressions.{SourceTypes}
use Rattle.rt_language.specs.Meaning.{meaning_of, props_of}
use Rattle.rt_language.specs.Printed.{start_of}
use Rattle.rt_language.specs.Shorthand.{slot, use_alone, component, of_components, with_tasks, spawns, text, built, builds}
use Rattle.rt_language.specs.FirstRows.{hello_world}
use Rattle.rt_language.specs.EventRows.{listing, letters}
use Rattle.rt_language.specs.SuspenseRows.{held_apart, fetches}
use Rattle.lang_rows.specs.AuthorRows.{acts_while_hidden}
use Rattle.lang_rows.specs.PinRows.{cleans_two_cells, turns_twice}
use Rattle.lang_rows.specs.SuspendedRows.{tells_polls}
use Rattle.lang_rows.specs.ByCalls.{Reached, then_changed, is_so, state_in, built_by, settled_by, rendered_by}

-- a boundary whose children fetch by a task
abbrev pub fetching : Source
fetching = fetches (slot (held_apart (use_alone 1 []))) (WakeInput 1 ∷ [])

-- after its build and a call that settles, in two units
abbrev pub held : Reached
held = settled_by fetching (Rerun 4 ∷ Kept 5 ∷ Poll 1 ∷ []) (built_by fetching (builds 5))

-- its task is paused and woken: nothing is done
abbrev pub paused : Reached
paused = settled_by fetching [] (then_changed (λ w. post (activated w 1 false (at w.tasks 1)) (Woken 1)) held)

-- it is resumed: three units
abbrev pub resumed : Reached
resumed =
    settled_by fetching (Poll 1 ∷ Rerun 4 ∷ Kept 5 ∷ Rerun 5 ∷ []) (then_changed (λ w. activated w 1 true (at w.tasks 1)) paused)

-- the row of a task that is paused, resumed and done
abbrev pub PausedRow : Type 0
PausedRow =
    is_so (λ w. not (is_active w 1) && suspended_remains w.tasks) paused
    && is_so (λ w. not (is_some (at w.tasks 1)) && ready_now (meaning_of fetching) w 1 && not (suspended_remains w.tasks)) resumed
    ≡ true

-- what is posted of an outcome, and what is seen
abbrev pub leaves : List Posted → List ℕ → Outcome SourceTypes → Bool
leaves posted seen (Done w work) = same_list same_posted w.posted posted && same_numbers w.seen seen
leaves posted seen (Cut w fault) = false

-- the row of a poll that a program asks for: no look follows it, and of a paused task nothing is done
abbrev pub PolledNowRow : Type 0
PolledNowRow =
    is_so
    (λ w. ready_now (meaning_of fetching) w 1 && leaves (Mark 5 ∷ Mark 4 ∷ []) [] (polled_now (meaning_of fetching) w 1))
    held
    && is_so (λ w. not (ready_now (meaning_of fetching) w 1) && leaves [] [] (polled_now (meaning_of fetching) w 1)) paused
    ≡ true

-- the row of a batch without a look: what its effect wrote has posted a mark
abbrev pub BatchRow : Type 0
BatchRow =
    is_so
    (λ w. leaves (Mark 3 ∷ []) [] (effects_apart (meaning_of acts_while_hidden) w 5))
    (state_in (replay_on (meaning_of acts_while_hidden) (Some (start_of acts_while_hidden)) (builds 6 ++ Poll 1 ∷ [])))
    ≡ true

-- every scope is marked at once
abbrev pub all_marked : Reached
all_marked = then_changed (λ w. all_marked_now w.scopes w) (built_by hello_world built)

-- a render's log after that
abbrev pub marked_log : List Entry
marked_log = Rerun 0 ∷ Kept 1 ∷ Rerun 1 ∷ Fed 2 ∷ Kept 3 ∷ Rerun 3 ∷ []

-- the reruns of a log are those of the scopes seen
abbrev pub InTurn : Reached → List Entry → Type 0
InTurn None log = ⊥
InTurn (Some w) log = RerunInTurn (seen_in_order w) log

-- the row of marks from outside, which are seen at once; the scopes seen are rerun in order, but for one that was fed before its turn
abbrev pub MarkedRow : Type 0
MarkedRow = (is_so (λ w. not (owes w)) (rendered_by hello_world marked_log all_marked) ≡ true) × InTurn all_marked marked_log

-- the row of a poll of suspended work: the isomorphic task alone is polled, and the scope that it marks ends it
abbrev pub PollRow : Type 0
PollRow =
    is_so
    (λ w. same_numbers w.seen (3 ∷ []) && same_numbers w.queued [])
    (state_in
    (polls_on (meaning_of tells_polls) (replay_on (meaning_of tells_polls) (Some (start_of tells_polls)) built) (Poll 2 ∷ [])))
    ≡ true

-- the fault of a suspended render within a limit of units, where it comes to one by this log
abbrev pub render_fault : ℕ → List Entry → Option (Machine SourceTypes) → Option Fault
render_fault units log m =
    elim (renders_within (meaning_of tells_polls) (record usual { units = units }) m log) [
      | None ↦ None
      | Some u ↦ rendering_refusal (meaning_of tells_polls) (record usual { units = units }) u
    ]

-- the row of a suspended render whose units are spent: its reruns would be the second unit
abbrev pub SpentRenderRow : Type 0
SpentRenderRow =
    (render_fault 1 (Poll 2 ∷ []) (replay_on (meaning_of tells_polls) (Some (start_of tells_polls)) built) ≡ Some (OutOfTurns 1))
    ×
    (render_fault 2 (Poll 2 ∷ Rerun 3 ∷ []) (replay_on (meaning_of tells_polls) (Some (start_of tells_polls)) built) ≡ None)

-- a root that spawns a task
abbrev pub spawns_one : Source
spawns_one = with_tasks (of_components (component (spawns 0 [] ∷ []) (text (codes "k")) ∷ []) []) (([] ∷ []) ∷ [])

-- the fault of a replay
abbrev pub fault_in : Option (Machine SourceTypes) → Option Fault
fault_in None = None
fault_in (Some m) = refusal usual m

-- the row of first numbers that are handed in: no task has a number
abbrev pub FirstNumbersRow : Type 0
FirstNumbersRow =
    fault_in
    (replay_on
    (meaning_of spawns_one)
    (Some (start_with (meaning_of spawns_one) (props_of spawns_one) (record ones { tasks = last_number }) [] []))
    built)
    ≡
    Some (IdsExhausted Tasks)

-- a runtime whose root provides two texts before its build
abbrev pub provides_before : Reached
provides_before =
    state_in
    (replay_on
    (meaning_of hello_world)
    (Some
    (start_with
    (meaning_of hello_world)
    (props_of hello_world)
    ones
    ((0, TextValue (codes "x")) ∷ (1, TextValue (codes "y")) ∷ [])
    []))
    built)

-- a look-up from a scope upwards gives this
abbrev pub finds : ℕ → ℕ → Option Value → State SourceTypes → Bool
finds s kind value w = same_option same_value (provided_above w s kind) value

-- the row of contexts that the root provides before the build
abbrev pub RootContextsRow : Type 0
RootContextsRow =
    is_so
    (λ w. finds 3 0 (Some (TextValue (codes "x"))) w && finds 3 1 (Some (TextValue (codes "y"))) w && finds 3 2 None w)
    provides_before
    ≡ true

-- the row of scopes below others; none is below itself
abbrev pub BelowRow : Type 0
BelowRow =
    is_so
    (λ w. is_descendant w 3 0 && is_descendant w 3 2 && not (is_descendant w 3 3) && not (is_descendant w 0 3) && not (is_descendant w 9 0))
    (built_by hello_world built)
    ≡ true

-- the paths and positions of a place
abbrev pub way : Place → List (List ℕ)
way [] = []
way (inside t p ∷ steps) = p ∷ way steps
way (item i ∷ steps) = (i ∷ []) ∷ way steps

-- a node stands in this scope by this way
abbrev pub stands : Option Standing → ℕ → List (List ℕ) → Bool
stands None s ways = false
stands (Some found) s ways = nat_eq found.0 s && same_list same_numbers (way found.2) ways

-- the list after it had three items, none and two
abbrev pub listed_again : Reached
listed_again =
    state_in
    (replay_on
    (meaning_of listing)
    (Some (start_of listing))
    (built ++ Taken 1 ∷ Rerun 3 ∷ Taken 2 ∷ Rerun 3 ∷ []))

-- the row of numbers and their places: an inner element, a text of a second item, numbers that no node has
abbrev pub PlacesRow : Type 0
PlacesRow =
    is_so
    (λ w. stands (node_place w 3) 3 ((0 ∷ 1 ∷ []) ∷ []) && not (is_some (node_place w 9)))
    (built_by (letters [] []) built)
    && is_so
    (λ w. stands (node_place w 12) 3 ((0 ∷ 0 ∷ []) ∷ (1 ∷ []) ∷ (0 ∷ 0 ∷ []) ∷ []) && not (is_some (node_place w 2)))
    listed_again
    ≡ true

-- how often a source's log calls the application
abbrev pub calls_of : Source → List Entry → ℕ
calls_of s log = calls_meant (meaning_of s) (start_of s) log

-- the row of calls: bodies and a fallback with a poll; bodies and two clean-ups; bodies, a resolved callback and polls
abbrev pub CountedRow : Type 0
CountedRow =
    (calls_of fetching (builds 5 ++ Rerun 4 ∷ Kept 5 ∷ Poll 1 ∷ []) ≡ 5)
    ×
    (calls_of fetching (builds 5 ++ Rerun 4 ∷ Kept 5 ∷ Poll 1 ∷ Taken 1 ∷ Poll 1 ∷ Rerun 4 ∷ Kept 5 ∷ Rerun 5 ∷ []) ≡ 7)
    ×
    (calls_of cleans_two_cells (builds 4 ++ Taken 1 ∷ Rerun 3 ∷ Removed 4 ∷ Rerun 3 ∷ []) ≡ 6)
    ×
    (calls_of turns_twice (builds 5 ++ Rerun 3 ∷ Kept 4 ∷ Poll 1 ∷ Taken 1 ∷ Rerun 5 ∷ Rerun 4 ∷ Kept 5 ∷ []) ≡ 6)
