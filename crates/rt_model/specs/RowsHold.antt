-- What a row that computes says of its application: the headline.
use Rattle.std.specs.Prelude.{List, Some, ◌≡◌}
use Rattle.rt_model.specs.Lists.{joined}
use Rattle.rt_model.specs.World.{TaskStep}
use Rattle.rt_model.specs.Program.{Program, application_of}
use Rattle.rt_model.specs.Replay.{Entry, Input}
use Rattle.rt_model.specs.Document.{Edit}
use Rattle.rt_model.specs.Told.{Told, edits_of}
use Rattle.rt_model.specs.Causes.{usual}
use Rattle.rt_model.specs.Headline.{Headline}
use Rattle.rt_model.specs.Finished.{reports_of}
use Rattle.rt_model.specs.Small.{Val, Name, Job, R, Body, app_of, RowOf}

-- the headline holds of the reports of a row, and their edits are the row's
pub record RowHolds
    (body : Name → List Val → Body) (poll : Job → Program R (TaskStep R))
    (props : List Val) (inputs : List (Input R)) (logs : List (List Entry)) (edits : List (List Edit))
    : Type 0 where
  -- the edits of each report and the state after it
  pub told : List (Told R)
  pub written : edits_of told ≡ edits
  pub headline :
      Headline
      (application_of (record (app_of body) { poll = poll }))
      props
      inputs
      usual
      (Some (joined (edits_of told)))
      (reports_of logs told)

-- a row that computes holds, whatever the bodies and polls of its application
abbrev pub RowsHold : Type 0
RowsHold =
    (body : Name → List Val → Body) (poll : Job → Program R (TaskStep R)) (props : List Val) (inputs : List (Input R))
    → (logs : List (List Entry)) (edits : List (List Edit))
    → RowOf (record (app_of body) { poll = poll }) props inputs logs edits
    → RowHolds body poll props inputs logs edits
