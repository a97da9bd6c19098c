-- What code proves of a session, before the laws say what its states are.
use Rattle.std.specs.Prelude.{List, Option}
use Rattle.rt_model.specs.Tree.{Types}
use Rattle.rt_model.specs.World.{Application}
use Rattle.rt_model.specs.State.{Fault}
use Rattle.rt_model.specs.Replay.{Input}
use Rattle.rt_model.specs.Document.{Edit}
use Rattle.rt_model.specs.Causes.{Limits}
use Rattle.rt_model.specs.Told.{Told}
use Rattle.rt_model.specs.Reports.{Report}
use Rattle.rt_model.specs.Headline.{Recorded, AllDone, Stopped}

-- of a session that finished
pub record Ran
    {K : Types} (app : Application K)
    (props : K.Props) (inputs : List (Input K)) (limits : Limits) (taken : Option (List Edit)) (reports : List Report)
    : Type 0 where
  -- the edits of each report and the state after it
  pub told : List (Told K)
  pub recorded : Recorded app props inputs reports told
  pub done : AllDone app props inputs limits taken reports told

-- of a session that came to a fault
pub record RanTo
    {K : Types} (app : Application K)
    (props : K.Props) (inputs : List (Input K)) (limits : Limits) (taken : Option (List Edit)) (reports : List Report) (fault : Fault)
    : Type 0 where
  -- of the finished reports: the edits of each and the state after it
  pub told : List (Told K)
  pub recorded : Recorded app props inputs reports told
  pub stopped : Stopped app props inputs limits taken reports told fault
