-- The lines of edits and reports in a form, as code has them.
use Rattle.std.specs.Prelude.{◌≡◌, ℕ, List, map, Option, Some}
use Rattle.rt_edits.specs.declared.edit.Edit.{Edit}
use Rattle.rt_model.specs.Lists.{Text}
use Rattle.run_reports.specs.Seen.{report_of}
use Rattle.run_reports.specs.declared.report.Report.{Report}
use Rattle.show_answers.specs.Streamed.{edit_lines_in}
use Rattle.show_answers.specs.Told.{Form, ToldReport}
use Rattle.tree_edits.specs.Documents.{edit_of}

-- the lines of edits, in order
abbrev pub lines_in : Form → List Edit → List Text
lines_in form edits = edit_lines_in form (map edit_of edits)

-- the line of a report, which has this number
abbrev pub report_line_in : Form → ℕ → Report → Text
report_line_in form number report = form (ToldReport number (report_of report))

-- lines are those of all edits that a sink tells
pub record AreLinesIn (form : Form) (told : Option (List Edit)) (lines : List Text) : Type 0 where
  pub edits : List Edit
  pub tells : told ≡ Some edits
  pub printed : lines ≡ lines_in form edits
