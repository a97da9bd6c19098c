-- The reports of a session so far, and the step that takes one input more in.
use Rattle.std.specs.Prelude.{◌≡◌, ℕ, List, map, Option, Result, Ok, Err}
use Rattle.rt_edits.specs.Sinks.{grown}
use Rattle.rt_edits.specs.declared.edit.Edit.{Edit}
use Rattle.tree_edits.specs.Documents.{edit_of}
use Rattle.rt_model.specs.OneLog.{types}
use Rattle.rt_model.specs.World.{Application}
use Rattle.rt_model.specs.Replay as replay
use Rattle.rt_model.specs.Causes as causes
use Rattle.run_reports.specs.Seen.{report_of}
use Rattle.run_reports.specs.Counted.{BeginsOneEach, logs_in}
use Rattle.run_reports.specs.declared.report.Report.{Report}
use Rattle.law_moves.specs.Sessions as turns
use Rattle.run_machine.specs.Stands.{Follows, RunsAs}
use Rattle.run_outside.specs.Sofar.{Sofar}
use Rattle.run_outside.specs.declared.ended.Ended.{Ended}
use Rattle.run_machine.specs.declared.machine.Machine.{Machine}

module _ {P C Q V H T E L : Type 0} (app : Application (types C Q V H T E L)) (limits : causes.Limits) (props : Q)
    (inputs : List (replay.Input (types C Q V H T E L))) where
  -- the reports so far, the edits that the sink took, and the machine at which the next report may begin
  pub record Runs (before now : Option (List Edit)) (reports : List Report) (left : List (replay.Input (types C Q V H T E L))) (number : ℕ)
      (d : Machine P C Q V H T E L) : Type 0 where
    pub wrote : List Edit
    pub told : now ≡ grown before wrote
    pub last : replay.Machine (types C Q V H T E L)
    pub sofar : turns.Sofar app limits props inputs (map report_of reports) (map edit_of wrote) last
    pub follows : Follows app limits props inputs left number last d

  -- an input was taken in: the reports go on with its own, or the session ends as the definitions say
  abbrev pub StepsTo : List (replay.Input (types C Q V H T E L)) → Option (List Edit) → Option (List Edit) → List Report
      → Machine P C Q V H T E L → Result ℕ Ended → Type 0
  StepsTo left before now reports d (Ok number) = Runs before now reports left number d × Sofar inputs left number reports
  StepsTo left before now reports d (Err ended) =
      RunsAs app limits props inputs before now reports (Err ended) × BeginsOneEach inputs (logs_in reports)
