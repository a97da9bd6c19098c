-- What a row that prints its text says of the session: the headline, or the way to a fault.
use Rattle.std.specs.Prelude.{List, ◌++◌, Some, ◌≡◌}
use Rattle.rt_model.specs.Lists.{Text, joined}
use Rattle.rt_model.specs.State.{Fault}
use Rattle.rt_model.specs.Replay.{Entry}
use Rattle.rt_model.specs.Told.{Told, Telling, edits_of}
use Rattle.rt_model.specs.Causes.{Limits, IsValid, edits_at_refusal}
use Rattle.rt_model.specs.Headline.{Headline, CameTo}
use Rattle.rt_model.specs.Finished.{reports_of}
use Rattle.rt_language.specs.Syntax.{Source}
use Rattle.rt_language.specs.Expressions.{SourceTypes}
use Rattle.rt_language.specs.Meaning.{meaning_of, props_of, inputs_of}
use Rattle.rt_language.specs.Lines.{text_of, fault_text_of}
use Rattle.rt_language.specs.Printed.{PrintsWithin, FaultPrints}

-- a session with these logs keeps the headline, the text is that of its edits and reports, and no run of the source comes to a fault
pub record PrintedSays (limits : Limits) (s : Source) (logs : List (List Entry)) (text : Text) : Type 0 where
  -- the edits of each report and the state after it
  pub told : List (Told SourceTypes)
  pub headline : Headline (meaning_of s) (props_of s) (inputs_of s.inputs) limits (Some (joined (edits_of told))) (reports_of logs told)
  pub printed : text_of (joined (edits_of told)) (reports_of logs told) ≡ text
  pub valid : IsValid (meaning_of s) (props_of s) (inputs_of s.inputs) limits

-- a session with these finished logs comes to a fault, and the text is that of the edits taken, the finished reports and the fault
pub record FaultSays (limits : Limits) (s : Source) (logs : List (List Entry)) (text : Text) : Type 0 where
  -- of the finished reports: the edits of each and the state after it
  pub told : List (Told SourceTypes)
  -- the replay at the end, with the edits since the last report
  pub last : Telling SourceTypes
  pub fault : Fault
  pub came :
      CameTo
      (meaning_of s)
      (props_of s)
      (inputs_of s.inputs)
      limits
      (Some (joined (edits_of told) ++ edits_at_refusal (meaning_of s) limits last))
      (reports_of logs told)
      fault
  pub printed : fault_text_of (joined (edits_of told) ++ edits_at_refusal (meaning_of s) limits last) (reports_of logs told) fault ≡ text

-- a row that computes holds, of every source
abbrev pub RowsSay : Type 0
RowsSay =
    (limits : Limits) (s : Source) (logs : List (List Entry)) (text : Text)
    → PrintsWithin limits s logs text
    → PrintedSays limits s logs text

-- so does a row that ends in a fault
abbrev pub FaultRowsSay : Type 0
FaultRowsSay =
    (limits : Limits) (s : Source) (logs : List (List Entry)) (log : List Entry) (text : Text)
    → FaultPrints limits s logs log text
    → FaultSays limits s logs text
