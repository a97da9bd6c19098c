-- The reports of a session so far, with the inputs that are left.
use Rattle.std.proofs.Common.{◌≡◌, ℕ, ◌+◌, List, [], ◌∷◌, ◌++◌, map, refl, ap, sym, subst, ◌∙◌, append_assoc, append-nil, arith}
use Rattle.std.proofs.lemmas.List.{map-append}
pub use Rattle.rt_lemmas.proofs.Lists.{nothing_left}
use Rattle.rt_model.specs.Reports.{OneEach, OpensWith, InputsFrom}
use Rattle.rt_model.specs.Replay.{Entry, Build, Taken, Input}
use Rattle.rt_model.specs.Tree.{Types}
use Rattle.run_reports.specs.Seen.{entry_of}
use Rattle.run_reports.specs.Counted.{logs_in, edits_in, CountsLog, AllCountLogs, BeginsOneEach}
use Rattle.run_reports.specs.declared.report.Report.{Report}
use Rattle.run_outside.specs.Sofar.{Sofar}

-- logs of inputs in which nothing happens
abbrev pub filler : {K : Types} → ℕ → List (Input K) → List (List Entry)
filler k [] = []
filler k (input ∷ inputs) = (Taken k ∷ []) ∷ filler (k + 1) inputs

pub fills : {K : Types} (k : ℕ) (inputs : List (Input K)) → InputsFrom k inputs (filler k inputs)
fills k [] = tt
fills k (input ∷ inputs) = ((refl, refl), fills (k + 1) inputs)

all-more : (reports : List Report) (report : Report) → AllCountLogs reports → CountsLog report → AllCountLogs (reports ++ report ∷ [])
all-more [] report all one = (one, tt)
all-more (r ∷ reports) report all one = (all.0, all-more reports report all.1 one)

-- the build's report
pub sofar-first : {K : Types} (all : List (Input K)) (report : Report) → OpensWith Build (map entry_of report.log) → CountsLog report → Sofar all all 0 (report ∷ [])
sofar-first all report opens counts = record { opens = λ later h. (opens, h); counts = (counts, tt) }

-- one more report
pub sofar-more : {K : Types} (all : List (Input K)) (input : Input K) (rest : List (Input K)) (number : ℕ) (reports : List Report) (report : Report) →
    Sofar all (input ∷ rest) number reports → OpensWith (Taken (number + 1)) (map entry_of report.log) → CountsLog report →
    Sofar all rest (number + 1) (reports ++ report ∷ [])
sofar-more all input rest number reports report s opens counts =
    let same : (later : List (List Entry)) → logs_in reports ++ (map entry_of report.log ∷ later) ≡ logs_in (reports ++ report ∷ []) ++ later =
    λ later. sym (append_assoc (logs_in reports) (map entry_of report.log ∷ []) later) ∙ ap (λ logs. logs ++ later) (sym (map-append (λ (r : Report). map entry_of r.log) reports (report ∷ []))) in
    record {
      opens = λ later h. subst (λ logs. OneEach all logs) (same later) (s.opens (map entry_of report.log ∷ later) (opens, h));
      counts = all-more reports report s.counts counts;
    }

-- no input is left
pub sofar-all : {K : Types} (all : List (Input K)) (number : ℕ) (reports : List Report) → Sofar all [] number reports → OneEach all (logs_in reports)
sofar-all all number reports s = subst (λ logs. OneEach all logs) (append-nil (logs_in reports)) (s.opens [] tt)

-- some inputs may be left
pub sofar-begins : {K : Types} (all rest : List (Input K)) (number : ℕ) (reports : List Report) → Sofar all rest number reports → BeginsOneEach all (logs_in reports)
sofar-begins all rest number reports s = record { later = filler (number + 1) rest; one_each = s.opens (filler (number + 1) rest) (fills (number + 1) rest) }

-- nothing was finished
pub none-begins : {K : Types} (all : List (Input K)) → BeginsOneEach all []
none-begins all = record { later = (Build ∷ []) ∷ filler 1 all; one_each = ((refl, refl), fills 1 all) }

-- the edits of one report more
pub edits-more : (reports : List Report) (report : Report) → edits_in (reports ++ report ∷ []) ≡ edits_in reports + report.edits
edits-more [] report = omega arith
edits-more (r ∷ reports) report = let more = edits-more reports report in omega (arith, more)

-- nothing was finished in these reports
pub begins-none : {K : Types} (all : List (Input K)) (reports : List Report) → reports ≡ [] → BeginsOneEach all (logs_in reports)
begins-none all reports none = subst (λ (rs : List Report). BeginsOneEach all (logs_in rs)) (sym none) (none-begins all)

-- the build's report alone
pub sofar-begin : {K : Types} (all rest : List (Input K)) (old new : List Report) (report : Report) →
    rest ≡ all → old ≡ [] → new ≡ old ++ report ∷ [] → OpensWith Build (map entry_of report.log) → CountsLog report → Sofar all rest 0 new
sofar-begin all rest old new report whole none pushed opens counts =
    let one : new ≡ report ∷ [] = pushed ∙ ap (λ (rs : List Report). rs ++ report ∷ []) none in
    subst (λ (left : List (Input _)). Sofar all left 0 new) (sym whole)
    (subst (λ (rs : List Report). Sofar all all 0 rs) (sym one) (sofar-first all report opens counts))

-- one more input was taken
pub sofar-next : {K : Types} (all was rest : List (Input K)) (input : Input K) (number next : ℕ) (reports new : List Report) (report : Report) →
    was ≡ input ∷ rest → next ≡ number + 1 → new ≡ reports ++ report ∷ [] → Sofar all was number reports →
    OpensWith (Taken next) (map entry_of report.log) → CountsLog report → Sofar all rest next new
sofar-next all was rest input number next reports new report step counted pushed s opens counts =
    let before : Sofar all (input ∷ rest) number reports = subst (λ (left : List (Input _)). Sofar all left number reports) step s in
    let opened : OpensWith (Taken (number + 1)) (map entry_of report.log) = subst (λ (n : ℕ). OpensWith (Taken n) (map entry_of report.log)) counted opens in
    subst (λ (n : ℕ). Sofar all rest n new) (sym counted)
    (subst (λ (rs : List Report). Sofar all rest (number + 1) rs) (sym pushed) (sofar-more all input rest number reports report before opened counts))

-- none is left
pub sofar-end : {K : Types} (all rest : List (Input K)) (number : ℕ) (reports : List Report) → rest ≡ [] → Sofar all rest number reports → OneEach all (logs_in reports)
sofar-end all rest number reports none s = sofar-all all number reports (subst (λ (left : List (Input _)). Sofar all left number reports) none s)

-- the edits of the reports with one more
pub edits-pushed : (reports new : List Report) (report : Report) → new ≡ reports ++ report ∷ [] → edits_in reports + report.edits ≡ edits_in new
edits-pushed reports new report pushed = sym (ap edits_in pushed ∙ edits-more reports report)

-- those of the first one
pub edits-first : (old new : List Report) (report : Report) → old ≡ [] → new ≡ old ++ report ∷ [] → report.edits ≡ edits_in new
edits-first old new report none pushed =
    let before : edits_in old ≡ 0 = ap edits_in none in
    let all : edits_in old + report.edits ≡ edits_in new = edits-pushed old new report pushed in
    omega (arith, before, all)
