-- The reports of a session so far, with the inputs that are left.
use Rattle.std.specs.Prelude.{ℕ, ◌+◌, List, ◌++◌}
use Rattle.rt_model.specs.Tree.{Types}
use Rattle.rt_model.specs.Replay as replay
use Rattle.rt_model.specs.Reports.{OneEach, InputsFrom}
use Rattle.run_reports.specs.Counted.{AllCountLogs, logs_in}
use Rattle.run_reports.specs.declared.report.Report.{Report}

-- further logs of the inputs that are left make it one for the build and one for each input; each report counts right
pub record Sofar {K : Types} (all rest : List (replay.Input K)) (number : ℕ) (reports : List Report) : Type 0 where
  pub opens : (later : List (List replay.Entry)) → InputsFrom (number + 1) rest later → OneEach all (logs_in reports ++ later)
  pub counts : AllCountLogs reports
