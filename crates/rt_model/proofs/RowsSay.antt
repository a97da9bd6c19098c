-- A row that computes keeps the headline.
use Rattle.std.proofs.Common.{true, List, ◌≡◌, refl}
use Rattle.std.specs.Prelude.{Option, Some, None, is_some}
use Rattle.rt_model.specs.Lists.{joined}
use Rattle.rt_model.specs.World.{Application, TaskStep}
use Rattle.rt_model.specs.Program.{Program, Programs, application_of}
use Rattle.rt_model.specs.Replay.{Entry, Input, start}
use Rattle.rt_model.specs.Document.{Edit}
use Rattle.rt_model.specs.Told.{Told, tell_reports, edits_of, same_edits}
use Rattle.rt_model.specs.Openings.{one_each}
use Rattle.rt_model.specs.Causes.{usual, replay_within}
use Rattle.rt_model.specs.Finished.{is_finished}
use Rattle.rt_model.specs.Small.{Val, Name, Job, R, Body, app_of, is_within, told_with}
use Rattle.rt_model.specs.RowsHold.{RowHolds, RowsHold}
use Rattle.rt_model.proofs.Conjunctions.{and-left, and-right}
use Rattle.rt_model.proofs.SameEdits.{edits-true}
use Rattle.rt_model.proofs.FinishedTold.{finished_is_headline}
use Rattle.rt_model.proofs.SmallLawful.{small_are_lawful}

module _ (body : Name → List Val → Body) (poll : Job → Program R (TaskStep R)) (props : List Val) (inputs : List (Input R)) (logs : List (List Entry)) (edits : List (List Edit)) where
  abbrev app : Application R
  app = application_of (record (app_of body) { poll = poll })

  told-holds : (o : Option (List (Told R))) → tell_reports app (start app props inputs) logs ≡ o → one_each inputs logs ≡ true → is_some (replay_within app usual (Some (start app props inputs)) (joined logs)) ≡ true → told_with app edits o ≡ true → RowHolds body poll props inputs logs edits
  told-holds None e each within h = cc
  told-holds (Some told) e each within h =
      let lawful = small_are_lawful body poll in
      record {
        told = told;
        written = edits-true (edits_of told) edits (and-left _ (is_finished app told) h);
        headline =
            finished_is_headline app
            (record { components = lawful.tests_components; props = lawful.tests_props; handlers = lawful.tests_handlers })
            props inputs usual logs told e each (and-right (same_edits (edits_of told) edits) _ h) within;
      }

-- what a row computes is what it says
pub rows_hold : RowsHold
rows_hold body poll props inputs logs edits h =
    let o = tell_reports (app body poll props inputs logs edits) (start (app body poll props inputs logs edits) props inputs) logs in
    let a : Programs R = record (app_of body) { poll = poll } in
    let front : is_within a props inputs logs ≡ true = and-left _ (told_with (app body poll props inputs logs edits) edits o) h in
    told-holds body poll props inputs logs edits o refl
    (and-left _ (is_some (replay_within (app body poll props inputs logs edits) usual (Some (start (app body poll props inputs logs edits) props inputs)) (joined logs))) front)
    (and-right (one_each inputs logs) _ front)
    (and-right (is_within a props inputs logs) _ h)
