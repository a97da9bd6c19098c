-- Sessions that begin with other next numbers, or whose state is changed after the build; what reports say of defaults.
use Rattle.std.specs.Prelude.{Bool, List, [], ◌∷◌, ◌++◌, Option, Some, None, if◌then◌else◌, is_some}
use Rattle.rt_model.specs.Lists.{Text, joined}
use Rattle.rt_model.specs.World.{Firsts}
use Rattle.rt_model.specs.State.{State}
use Rattle.rt_model.specs.Replay.{Entry, Machine, replay_on}
use Rattle.rt_model.specs.Rendering.{at_state}
use Rattle.rt_model.specs.Told.{Told, tell_reports, tell_log, telling}
use Rattle.rt_model.specs.Causes.{replay_within, usual}
use Rattle.rt_model.specs.Headline.{last_machine}
use Rattle.rt_language.specs.Syntax.{Source}
use Rattle.rt_language.specs.Expressions.{SourceTypes}
use Rattle.rt_language.specs.Meaning.{meaning_of}
use Rattle.rt_language.specs.Printed.{start_of, text_on}
use Rattle.rt_language.specs.Shorthand.{built}

-- a replay with its state changed
abbrev pub changed_by : (State SourceTypes → State SourceTypes) → Machine SourceTypes → Machine SourceTypes
changed_by f m = at_state m (f m.state)

-- a state with other next numbers
abbrev pub numbered_by : (Firsts → Firsts) → State SourceTypes → State SourceTypes
numbered_by f w = record w { next = f w.next }

-- a session of a source at its start, with other next numbers
abbrev pub begun : (Firsts → Firsts) → Source → Option (Machine SourceTypes)
begun f s = Some (changed_by (numbered_by f) (start_of s))

-- a session after the build of a root without components below it, with its state changed
abbrev pub built_then : (State SourceTypes → State SourceTypes) → Source → Option (Machine SourceTypes)
built_then f s = elim (replay_on (meaning_of s) (Some (start_of s)) built) [ None ↦ None | Some m ↦ Some (changed_by f m) ]

-- the text of these reports, and of a log that goes on from them to a fault
abbrev pub text_told : Source → Machine SourceTypes → List (List Entry) → List Entry → Option (List (Told SourceTypes)) → Option Text
text_told s m logs log None = None
text_told s m logs log (Some told) =
    text_on usual (meaning_of s) logs told (tell_log (meaning_of s) (Some (telling (last_machine m told))) log)

-- no refusal comes before the end of these logs
abbrev pub is_open : Source → Machine SourceTypes → List (List Entry) → List Entry → Bool
is_open s m logs log = is_some (replay_within (meaning_of s) usual (Some m) (joined logs ++ log))

-- the text of a session that goes on from a replay by finished logs, and then by one that ends at a fault
abbrev pub text_from : Source → Option (Machine SourceTypes) → List (List Entry) → List Entry → Option Text
text_from s None logs log = None
text_from s (Some m) logs log = if is_open s m logs log then text_told s m logs log (tell_reports (meaning_of s) m logs) else None

-- which reports say that no listener prevented the default
abbrev pub enabled_in : List (Told SourceTypes) → List Bool
enabled_in [] = []
enabled_in (r ∷ rs) = r.machine.default_enabled ∷ enabled_in rs

-- the same of the reports of logs
abbrev pub defaults_of : Source → List (List Entry) → Option (List Bool)
defaults_of s logs = elim (tell_reports (meaning_of s) (start_of s) logs) [ None ↦ None | Some told ↦ Some (enabled_in told) ]
