-- What is told of an application that is given line by line, and the line of text that is written of each.
use Rattle.std.specs.Prelude.{ℕ, codes}
use Rattle.rt_language.specs.Lines.{edit_text, fault_text, line, report_line}
use Rattle.rt_model.specs.Document.{Edit}
use Rattle.rt_model.specs.Lists.{Text}
use Rattle.rt_model.specs.Reports.{Report}
use Rattle.rt_model.specs.State.{Fault}

-- an edit; a report, with its number; a fault; that a line was no input
pub data Told : Type 0 where
  ToldEdit : (edit : Edit) → Told
  ToldReport : (number : ℕ) (report : Report) → Told
  ToldFault : (fault : Fault) → Told
  ToldRefusal : Told

-- how each is written, with the end of its line
abbrev pub Form : Type 0
Form = Told → Text

-- as a line of text
abbrev pub text_form : Form
text_form (ToldEdit edit) = line (edit_text edit)
text_form (ToldReport number report) = report_line number report
text_form (ToldFault fault) = line (fault_text fault)
text_form ToldRefusal = line (codes "refused")
