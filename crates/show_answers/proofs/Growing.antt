-- One line more.
use Rattle.std.proofs.Common.{◌≡◌, ℕ, ◌+◌, Bool, true, false, List, [], ◌∷◌, ◌++◌, length, map, take, drop, refl, sym, ap, ◌∙◌, append_assoc, append-nil, arith}
use Rattle.rt_lemmas.proofs.Lists.{take_front as cut-front}
use Rattle.rt_model.specs.Document.{Edit}
use Rattle.rt_model.specs.Reports.{Report}
use Rattle.show_answers.specs.Streamed.{AreAnswered, answer, edit_lines_in, refusal, streamed, things}
use Rattle.show_answers.specs.Told.{Form, Told, ToldEdit, ToldReport}

cut-behind : {X : Type 0} (xs ys : List X) → drop (length xs) (xs ++ ys) ≡ ys
cut-behind [] ys = refl
cut-behind (x ∷ xs) ys = cut-behind xs ys

-- the edits of a report stand in front of others
own-front : (report : Report) (own later : List Edit) → length own ≡ report.edits → take report.edits (own ++ later) ≡ own
own-front report own later h = ap (λ n. take n (own ++ later)) (sym h) ∙ cut-front own later

own-behind : (report : Report) (own later : List Edit) → length own ≡ report.edits → drop report.edits (own ++ later) ≡ later
own-behind report own later h = ap (λ n. drop n (own ++ later)) (sym h) ∙ cut-behind own later

-- a line that was an input, of edits that are its own and others
cut : (form : Form) (lines : List Bool) (number : ℕ) (edits own later : List Edit) (report : Report) (reports : List Report) → edits ≡ own ++ later → length own ≡ report.edits
    → streamed form (true ∷ lines) number edits (report ∷ reports) ≡ answer form number own report ++ streamed form lines (number + 1) later reports
cut form lines number edits own later report reports same h =
    ap (λ es. answer form number (take report.edits es) report ++ streamed form lines (number + 1) (drop report.edits es) reports) same
    ∙ ap (λ es. answer form number es report ++ streamed form lines (number + 1) (drop report.edits (own ++ later)) reports) (own-front report own later h)
    ∙ ap (λ es. answer form number own report ++ streamed form lines (number + 1) es reports) (own-behind report own later h)

count-up : (number : ℕ) (reports : List Report) (report : Report) → number + 1 + length reports ≡ number + length (report ∷ reports)
count-up number reports report = omega arith

pub grow : (form : Form) (lines : List Bool) (number : ℕ) (edits own : List Edit) (reports : List Report) (report : Report)
    → AreAnswered lines edits reports → length own ≡ report.edits
    → streamed form (lines ++ true ∷ []) number (edits ++ own) (reports ++ report ∷ []) ≡ streamed form lines number edits reports ++ answer form (number + length reports) own report
grow form [] number edits own [] report are h =
    cut form [] number (edits ++ own) own [] report [] (ap (λ es. es ++ own) are ∙ sym (append-nil own)) h
    ∙ append-nil (answer form number own report)
    ∙ ap (λ n. answer form n own report) (omega arith)
grow form [] number edits own (first ∷ reports) report are h = absurd are
grow form (false ∷ lines) number edits own reports report are h = ap (λ text. refusal form ∷ text) (grow form lines number edits own reports report are h)
grow form (true ∷ lines) number edits own [] report are h = absurd are
grow form (true ∷ lines) number edits own (first ∷ reports) report are h =
    let front : List Edit = are.0 in
    let later : List Edit = are.1 in
    let same : edits ≡ front ++ later = are.2 in
    let counted : length front ≡ first.edits = are.3 in
    let whole : edits ++ own ≡ front ++ (later ++ own) = ap (λ es. es ++ own) same ∙ append_assoc front later own in
    cut form (lines ++ true ∷ []) number (edits ++ own) front (later ++ own) first (reports ++ report ∷ []) whole counted
    ∙ ap (λ text. answer form number front first ++ text) (grow form lines (number + 1) later own reports report are.4 h)
    ∙ ap (λ n. answer form number front first ++ (streamed form lines (number + 1) later reports ++ answer form n own report)) (count-up number reports first)
    ∙ sym (append_assoc (answer form number front first) (streamed form lines (number + 1) later reports) (answer form (number + length (first ∷ reports)) own report))
    ∙ ap (λ text. text ++ answer form (number + length (first ∷ reports)) own report) (sym (cut form lines number edits front later first reports same counted))

pub grow-answered : (lines : List Bool) (edits own : List Edit) (reports : List Report) (report : Report)
    → AreAnswered lines edits reports → length own ≡ report.edits → AreAnswered (lines ++ true ∷ []) (edits ++ own) (reports ++ report ∷ [])
grow-answered [] edits own [] report are h = (own, [], ap (λ es. es ++ own) are ∙ sym (append-nil own), h, refl)
grow-answered [] edits own (first ∷ reports) report are h = absurd are
grow-answered (false ∷ lines) edits own reports report are h = grow-answered lines edits own reports report are h
grow-answered (true ∷ lines) edits own [] report are h = absurd are
grow-answered (true ∷ lines) edits own (first ∷ reports) report are h =
    (are.0, are.1 ++ own, ap (λ es. es ++ own) are.2 ∙ append_assoc are.0 are.1 own, are.3, grow-answered lines are.1 own reports report are.4 h)

pub refuse : (form : Form) (lines : List Bool) (number : ℕ) (edits : List Edit) (reports : List Report)
    → AreAnswered lines edits reports → streamed form (lines ++ false ∷ []) number edits reports ≡ streamed form lines number edits reports ++ refusal form ∷ []
refuse form [] number edits [] are = refl
refuse form [] number edits (first ∷ reports) are = absurd are
refuse form (false ∷ lines) number edits reports are = ap (λ text. refusal form ∷ text) (refuse form lines number edits reports are)
refuse form (true ∷ lines) number edits [] are = absurd are
refuse form (true ∷ lines) number edits (first ∷ reports) are =
    cut form (lines ++ false ∷ []) number edits are.0 are.1 first reports are.2 are.3
    ∙ ap (λ text. answer form number are.0 first ++ text) (refuse form lines (number + 1) are.1 reports are.4)
    ∙ sym (append_assoc (answer form number are.0 first) (streamed form lines (number + 1) are.1 reports) (refusal form ∷ []))
    ∙ ap (λ text. text ++ refusal form ∷ []) (sym (cut form lines number edits are.0 are.1 first reports are.2 are.3))

pub refuse-answered : (lines : List Bool) (edits : List Edit) (reports : List Report) → AreAnswered lines edits reports → AreAnswered (lines ++ false ∷ []) edits reports
refuse-answered [] edits [] are = are
refuse-answered [] edits (first ∷ reports) are = absurd are
refuse-answered (false ∷ lines) edits reports are = refuse-answered lines edits reports are
refuse-answered (true ∷ lines) edits [] are = absurd are
refuse-answered (true ∷ lines) edits (first ∷ reports) are = (are.0, are.1, are.2, are.3, refuse-answered lines are.1 reports are.4)

-- edits and what is told behind them, in a form
edits_alike : (form : Form) (edits : List Edit) (more : List Told)
    → edit_lines_in form edits ++ map form more ≡ map form (map ToldEdit edits ++ more)
edits_alike form [] more = refl
edits_alike form (edit ∷ edits) more = ap (λ text. form (ToldEdit edit) ∷ text) (edits_alike form edits more)

-- what is written in a form is what is told, thing by thing in that form
pub alike : (form : Form) (lines : List Bool) (number : ℕ) (edits : List Edit) (reports : List Report)
    → streamed form lines number edits reports ≡ map form (things lines number edits reports)
alike form [] number edits reports = refl
alike form (false ∷ lines) number edits reports = ap (λ text. refusal form ∷ text) (alike form lines number edits reports)
alike form (true ∷ lines) number edits [] = refl
alike form (true ∷ lines) number edits (report ∷ reports) =
    let own = take report.edits edits in
    let later = drop report.edits edits in
    append_assoc (edit_lines_in form own) (form (ToldReport number report) ∷ []) (streamed form lines (number + 1) later reports)
    ∙ ap (λ text. edit_lines_in form own ++ form (ToldReport number report) ∷ text) (alike form lines (number + 1) later reports)
    ∙ edits_alike form own (ToldReport number report ∷ things lines (number + 1) later reports)
