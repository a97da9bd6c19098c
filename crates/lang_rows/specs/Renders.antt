-- Suspended renders of a source: one after the build, and one after a change from outside.
use Rattle.std.specs.Prelude.{ℕ, Bool, false, ◌&&◌, not, pos, List, [], ◌∷◌, Option, Some, None}
use Rattle.rt_model.specs.Lists.{same_numbers}
use Rattle.rt_model.specs.State.{State, Woken}
use Rattle.rt_model.specs.Commands.{post, write_cell}
use Rattle.rt_model.specs.Next.{owes}
use Rattle.rt_model.specs.Replay.{Entry, Machine, replay_on}
use Rattle.rt_model.specs.Rendering.{at_state, renders_on, resolved_by_height, nothing_resolved}
use Rattle.rt_language.specs.Syntax.{Source}
use Rattle.rt_language.specs.Values.{NumberValue}
use Rattle.rt_language.specs.Expressions.{SourceTypes}
use Rattle.rt_language.specs.Meaning.{meaning_of}
use Rattle.rt_language.specs.Printed.{start_of}

-- a suspended render with this log, after a build with that one
abbrev pub first_render : Source → List Entry → List Entry → Option (Machine SourceTypes)
first_render s build log = renders_on (meaning_of s) (replay_on (meaning_of s) (Some (start_of s)) build) log

-- another one, after the answer of the former was taken and the state was changed
abbrev pub render_again :
    Source → (State SourceTypes → State SourceTypes) → Option (Machine SourceTypes) → List Entry → Option (Machine SourceTypes)
render_again s f None log = None
render_again s f (Some m) log = renders_on (meaning_of s) (Some (at_state m (f (nothing_resolved m.state)))) log

-- tasks are woken
abbrev pub wakes : List ℕ → State SourceTypes → State SourceTypes
wakes [] w = w
wakes (t ∷ ts) w = wakes ts (post w (Woken t))

-- a number is written to a cell
abbrev pub writes : ℕ → ℕ → State SourceTypes → State SourceTypes
writes cell n w = write_cell w cell (NumberValue (pos n))

-- a render resolved these boundaries; those scopes have been passed over so far; and nothing is owed then
abbrev pub rendered_to : Option (Machine SourceTypes) → List ℕ → List ℕ → Bool
rendered_to None resolved skipped = false
rendered_to (Some m) resolved skipped =
    same_numbers (resolved_by_height m.state) resolved && same_numbers m.state.skipped skipped && not (owes m.state)
