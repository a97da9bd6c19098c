-- The sums so far, with the reports that are still to come, are the whole sums.
use Rattle.std.proofs.Common.{◌≡◌, ◌+◌, drop, map}
use Rattle.rt_language.specs.Generated.{total}
use Rattle.run_reports.specs.Seen.{report_of}
use Rattle.show_words.proofs.summary.totals_of.Given as goal

abbrev pub invariant-loop-report : goal.invariant-loop-report
invariant-loop-report l = record {
  units : l.totals.units + total (λ report. report.units) (map report_of (drop l.report-index l.reports)) ≡ total (λ report. report.units) (map report_of l.reports);
  bodies : l.totals.bodies + total (λ report. report.bodies) (map report_of (drop l.report-index l.reports)) ≡ total (λ report. report.bodies) (map report_of l.reports);
  edits : l.totals.edits + total (λ report. report.edits) (map report_of (drop l.report-index l.reports)) ≡ total (λ report. report.edits) (map report_of l.reports);
}
