-- What the program prints.
use Rattle.std.specs.Prelude.{List, ◌++◌, ℕ, map}
use Rattle.rt_edits.specs.declared.edit.Edit.{Edit}
use Rattle.tree_edits.specs.Documents.{edit_of}
use Rattle.rt_model.specs.Document as documents
use Rattle.rt_model.specs.Reports as sessions
use Rattle.rt_language.specs.Lines.{line, edit_text, edit_lines, report_line, report_lines}
use Rattle.run_reports.specs.Seen.{report_of}
use Rattle.run_reports.specs.declared.report.Report.{Report}

-- the line of an edit
abbrev pub line_of : Edit → List ℕ
line_of edit = line (edit_text (edit_of edit))

-- the lines of edits, in order
abbrev pub lines_of : List Edit → List (List ℕ)
lines_of edits = edit_lines (map edit_of edits)

-- the line of a report, which has this number
abbrev pub report_line_of : ℕ → Report → List ℕ
report_line_of number report = report_line number (report_of report)

-- the lines of reports, the first of which has this number
abbrev pub report_lines_from : ℕ → List Report → List (List ℕ)
report_lines_from number reports = report_lines number (map report_of reports)

-- the lines of a run: those of the edits that were taken, and then those of the reports
abbrev pub run_lines : List documents.Edit → List sessions.Report → List (List ℕ)
run_lines edits reports = edit_lines edits ++ report_lines 0 reports

abbrev pub run_lines_of : List Edit → List Report → List (List ℕ)
run_lines_of edits reports = run_lines (map edit_of edits) (map report_of reports)
