-- What the runtime makes is accepted.
use Rattle.std.specs.Prelude.{◌≡◌, List, Option}
use Rattle.rt_model.specs.Tree.{Types}
use Rattle.rt_model.specs.World.{Application}
use Rattle.rt_model.specs.Replay.{Input}
use Rattle.rt_model.specs.Document.{Edit}
use Rattle.rt_model.specs.Causes.{Limits}
use Rattle.rt_model.specs.Reports.{Report, logs_of}
use Rattle.rt_model.specs.Headline.{Headline}
use Rattle.lang_rows.specs.Verdicts.{Accepted, verdict}

module _ {K : Types} (app : Application K) where
  -- the logs of reports that are the headline of a session
  abbrev pub RunsAreAccepted : Type 0
  RunsAreAccepted =
      (props : K.Props) (inputs : List (Input K)) (limits : Limits) (taken : Option (List Edit)) (reports : List Report)
      → Headline app props inputs limits taken reports
      → verdict app props inputs (logs_of reports) ≡ Accepted
