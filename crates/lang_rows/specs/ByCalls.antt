-- A program's calls on a built runtime, one after another.
use Rattle.std.specs.Prelude.{Bool, false, ◌&&◌, List, [], ◌∷◌, Option, Some, None, if◌then◌else◌}
use Rattle.rt_model.specs.State.{State}
use Rattle.rt_model.specs.Next.{look, at_rest, drops}
use Rattle.rt_model.specs.Replay.{Entry, Machine, accepts, replay_on, is_quiet}
use Rattle.rt_model.specs.Told.{opens}
use Rattle.rt_model.specs.Sentences.{render_ends, settle_ends}
use Rattle.rt_model.specs.Asides.{resting}
use Rattle.rt_language.specs.Syntax.{Source}
use Rattle.rt_language.specs.Expressions.{SourceTypes}
use Rattle.rt_language.specs.Meaning.{meaning_of}
use Rattle.rt_language.specs.Printed.{start_of}

-- a state, where there is one
abbrev pub Reached : Type 0
Reached = Option (State SourceTypes)

-- the state of a replay
abbrev pub state_in : Option (Machine SourceTypes) → Reached
state_in None = None
state_in (Some m) = Some m.state

-- a change, where there is a state
abbrev pub then_changed : (State SourceTypes → State SourceTypes) → Reached → Reached
then_changed f None = None
then_changed f (Some w) = Some (f w)

-- a test of it
abbrev pub is_so : (State SourceTypes → Bool) → Reached → Bool
is_so test None = false
is_so test (Some w) = test w

-- the build by this log
abbrev pub built_by : Source → List Entry → Reached
built_by s log = state_in (replay_on (meaning_of s) (Some (start_of s)) log)

-- after an accepted entry
abbrev pub once_accepted : (Machine SourceTypes → Option (Machine SourceTypes)) → Option (Machine SourceTypes) → Option (Machine SourceTypes)
once_accepted go None = None
once_accepted go (Some m) = go m

-- a log along which no unit begins where the test holds, and at whose end it does
abbrev pub goes_until : Source → (State SourceTypes → Bool) → Machine SourceTypes → List Entry → Option (Machine SourceTypes)
goes_until s test m [] = if is_quiet m && test m.state then Some m else None
goes_until s test m (e ∷ log) =
    if opens e && test m.state then None else once_accepted (λ u. goes_until s test u log) (accepts (meaning_of s) m e)

-- to settle by this log
abbrev pub settled_by : Source → List Entry → Reached → Reached
settled_by s log None = None
settled_by s log (Some w) = then_changed (λ v. at_rest v) (state_in (goes_until s (λ v. settle_ends v) (resting (look w)) log))

-- to render by this log
abbrev pub rendered_by : Source → List Entry → Reached → Reached
rendered_by s log None = None
rendered_by s log (Some w) =
    then_changed (λ v. drops v.queued v) (state_in (goes_until s (λ v. render_ends v) (resting (look w)) log))
