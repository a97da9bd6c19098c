-- What is written of an application that is given line by line, in a form: report by report its edits and its line, and a refusal where a
-- line was no input.
use Rattle.std.specs.Prelude.{◌≡◌, ℕ, ◌+◌, Bool, true, false, List, [], ◌∷◌, ◌++◌, length, map, take, drop}
use Rattle.rt_model.specs.Document.{Edit}
use Rattle.rt_model.specs.Lists.{Text}
use Rattle.rt_model.specs.Reports.{Report}
use Rattle.show_answers.specs.Told.{Form, Told, ToldEdit, ToldRefusal, ToldReport}

-- the lines of edits, in order
abbrev pub edit_lines_in : Form → List Edit → List Text
edit_lines_in form edits = map (λ edit. form (ToldEdit edit)) edits

-- the answer of a report with this number: the lines of its edits, and its own
abbrev pub answer : Form → ℕ → List Edit → Report → List Text
answer form number edits report = edit_lines_in form edits ++ form (ToldReport number report) ∷ []

-- the answer to a line that is no input
abbrev pub refusal : Form → Text
refusal form = form ToldRefusal

-- what is written, by whether each line was an input, of edits that are cut by the reports' counts, the first of which has this number
abbrev pub streamed : Form → List Bool → ℕ → List Edit → List Report → List Text
streamed form [] number edits reports = []
streamed form (false ∷ lines) number edits reports = refusal form ∷ streamed form lines number edits reports
streamed form (true ∷ lines) number edits [] = []
streamed form (true ∷ lines) number edits (report ∷ reports) =
    answer form number (take report.edits edits) report ++ streamed form lines (number + 1) (drop report.edits edits) reports

-- what is told, thing by thing, whatever its form
abbrev pub things : List Bool → ℕ → List Edit → List Report → List Told
things [] number edits reports = []
things (false ∷ lines) number edits reports = ToldRefusal ∷ things lines number edits reports
things (true ∷ lines) number edits [] = []
things (true ∷ lines) number edits (report ∷ reports) =
    map ToldEdit (take report.edits edits) ++ ToldReport number report ∷ things lines (number + 1) (drop report.edits edits) reports

-- each of these lines that was an input has its report, and the edits are those of the reports
abbrev pub AreAnswered : List Bool → List Edit → List Report → Type 0
AreAnswered [] edits [] = edits ≡ []
AreAnswered [] edits (report ∷ reports) = ⊥
AreAnswered (false ∷ lines) edits reports = AreAnswered lines edits reports
AreAnswered (true ∷ lines) edits [] = ⊥
AreAnswered (true ∷ lines) edits (report ∷ reports) =
    (own later : List Edit) × (edits ≡ own ++ later) × (length own ≡ report.edits) × AreAnswered lines later reports
