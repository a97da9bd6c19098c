-- What a report counts, and which logs the reports of a session have.
use Rattle.std.specs.Prelude.{◌≡◌, ℕ, ◌+◌, List, [], ◌∷◌, ◌++◌, map}
use Rattle.std.specs.List.{AllByRecursion}
use Rattle.rt_model.specs.Tree.{Types}
use Rattle.rt_model.specs.Replay as replay
use Rattle.rt_model.specs.Told.{is_unit, is_body, count_entries}
use Rattle.rt_model.specs.Reports.{OneEach}
use Rattle.run_reports.specs.Seen.{entry_of}
use Rattle.run_reports.specs.declared.report.Report.{Report}

-- the log of each report
abbrev pub logs_in : List Report → List (List replay.Entry)
logs_in reports = map (λ report. map entry_of report.log) reports

-- a report counts the units and the bodies of its log
pub record CountsLog (report : Report) : Type 0 where
  pub units : report.units ≡ count_entries is_unit (map entry_of report.log)
  pub bodies : report.bodies ≡ count_entries is_body (map entry_of report.log)

-- each report counts right
abbrev pub AllCountLogs : List Report → Type 0
AllCountLogs reports = AllByRecursion CountsLog reports

-- how many edits the reports count together
abbrev pub edits_in : List Report → ℕ
edits_in [] = 0
edits_in (report ∷ reports) = report.edits + edits_in reports

-- further logs make it one for the build and one for each input, in order
pub record BeginsOneEach {K : Types} (inputs : List (replay.Input K)) (logs : List (List replay.Entry)) : Type 0 where
  pub later : List (List replay.Entry)
  pub one_each : OneEach inputs (logs ++ later)
