-- What a log of a source prints, where a session may have that log.
use Rattle.std.specs.Prelude.{Bool, true, false, ◌&&◌, List, ◌++◌, Option, Some, None, if◌then◌else◌, is_some, ◌≡◌}
use Rattle.rt_model.specs.Lists.{Text, joined}
use Rattle.rt_model.specs.World.{Application}
use Rattle.rt_model.specs.State.{Fault}
use Rattle.rt_model.specs.Replay.{Entry, Machine, start}
use Rattle.rt_model.specs.Told.{Told, Telling, tell_reports, tell_log, telling, edits_of}
use Rattle.rt_model.specs.Causes.{Limits, usual, refusal, replay_within, edits_at_refusal}
use Rattle.rt_model.specs.Headline.{last_machine}
use Rattle.rt_model.specs.Openings.{one_each, one_each_then}
use Rattle.rt_model.specs.Finished.{reports_of, is_finished}
use Rattle.rt_language.specs.Syntax.{Source}
use Rattle.rt_language.specs.Expressions.{SourceTypes}
use Rattle.rt_language.specs.Meaning.{meaning_of, props_of, inputs_of}
use Rattle.rt_language.specs.Lines.{text_of, fault_text_of}

-- a replay at the start of a source's inputs
abbrev pub start_of : Source → Machine SourceTypes
start_of s = start (meaning_of s) (props_of s) (inputs_of s.inputs)

-- there is no refusal
abbrev pub no_refusal : Option Fault → Bool
no_refusal None = true
no_refusal (Some fault) = false

-- the logs are one for the build and one for each input, and no refusal comes before an entry of theirs, nor after the last one
abbrev pub is_within : Limits → Source → List (List Entry) → Bool
is_within limits s logs =
    one_each (inputs_of s.inputs) logs
    &&
    elim (replay_within (meaning_of s) limits (Some (start_of s)) (joined logs)) [ None ↦ false | Some m ↦ no_refusal (refusal limits m) ]

-- the text of reports that are finished
abbrev pub text_of_told : Application SourceTypes → List (List Entry) → Option (List (Told SourceTypes)) → Option Text
text_of_told app logs None = None
text_of_told app logs (Some told) = if is_finished app told then Some (text_of (joined (edits_of told)) (reports_of logs told)) else None

-- the text of a session with these logs, where the source has them within the limits
abbrev pub printed : Limits → Source → List (List Entry) → Option Text
printed limits s logs =
    if is_within limits s logs then text_of_told (meaning_of s) logs (tell_reports (meaning_of s) (start_of s) logs) else None

-- the text up to a refusal: the edits that were taken, the reports that are finished, the fault
abbrev pub text_at : Limits → Application SourceTypes → List (List Entry) → List (Told SourceTypes) → Telling SourceTypes → Option Fault
    → Option Text
text_at limits app logs told t None = None
text_at limits app logs told t (Some fault) =
    Some (fault_text_of (joined (edits_of told) ++ edits_at_refusal app limits t) (reports_of logs told) fault)

-- the text of finished reports, and of a log that goes on to a refusal
abbrev pub text_on : Limits → Application SourceTypes → List (List Entry) → List (Told SourceTypes) → Option (Telling SourceTypes)
    → Option Text
text_on limits app logs told None = None
text_on limits app logs told (Some t) = if is_finished app told then text_at limits app logs told t (refusal limits t.machine) else None

-- the same of reports that are told
abbrev pub fault_text_on : Limits → Source → List (List Entry) → List Entry → Option (List (Told SourceTypes)) → Option Text
fault_text_on limits s logs log None = None
fault_text_on limits s logs log (Some told) =
    text_on limits (meaning_of s) logs told (tell_log (meaning_of s) (Some (telling (last_machine (start_of s) told))) log)

-- one log for the build and for each finished input, the last one opens with what came next, and no refusal comes before its end
abbrev pub is_cut_within : Limits → Source → List (List Entry) → List Entry → Bool
is_cut_within limits s logs log =
    one_each_then (inputs_of s.inputs) logs log && is_some (replay_within (meaning_of s) limits (Some (start_of s)) (joined logs ++ log))

-- the text of a session with these finished logs, which then goes on by a log to a refusal, the first one within the limits
abbrev pub printed_to_fault : Limits → Source → List (List Entry) → List Entry → Option Text
printed_to_fault limits s logs log =
    if is_cut_within limits s logs log
    then fault_text_on limits s logs log (tell_reports (meaning_of s) (start_of s) logs)
    else None

-- a source has these logs within limits, and they print this text
abbrev pub PrintsWithin : Limits → Source → List (List Entry) → Text → Type 0
PrintsWithin limits s logs text = printed limits s logs ≡ Some text

-- the same within the usual limits
abbrev pub Prints : Source → List (List Entry) → Text → Type 0
Prints s logs text = PrintsWithin usual s logs text

-- a source has these logs, then comes by a log to a fault within limits, and prints this text
abbrev pub FaultPrints : Limits → Source → List (List Entry) → List Entry → Text → Type 0
FaultPrints limits s logs log text = printed_to_fault limits s logs log ≡ Some text
