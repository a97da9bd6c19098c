-- Texts that are put one after the other.
use Rattle.std.proofs.Common.{◌≡◌, ℕ, ◌+◌, ◌<◌, ◌≤◌, suc, List, [], ◌∷◌, ◌++◌, length, take, drop, get_or, Option, Some, None, Result, Ok, Err, refl, ap, sym, ◌∙◌, append_assoc, append-nil, subst, take-append-drop, zero, zero-add, add-zero, arith}
use Rattle.std.proofs.lemmas.List.{take_all}
use Rattle.std.proofs.Math.Seq.{take-suc}
use Rattle.show_words.specs.Texts.{line_of, lines_of, report_line_of, report_lines_from, run_lines}
use Rattle.rt_language.specs.Lines as language
use Rattle.rt_language.specs.Lines.{edit_lines, report_lines}
use Rattle.rt_model.specs.Document as documents
use Rattle.rt_model.specs.Lists.{joined}
use Rattle.rt_model.specs.Reports as sessions
use Rattle.run_reports.specs.declared.report.Report.{Report}
use Rattle.rt_edits.specs.declared.edit.Edit.{Edit}
use Rattle.show_streams.specs.Writes.{grown, AddsFront, Begins, Writes, Puts}
use Rattle.show_streams.specs.declared.out.OutError.{OutError}

-- what is written twice is written at once
grown_twice : (old : Puts) (xs ys : List (List ℕ)) → grown (grown old xs) ys ≡ grown old (xs ++ ys)
grown_twice None xs ys = refl
grown_twice (Some es) xs ys = ap Some (append_assoc es xs ys)

-- texts that were put, and behind them a front of others
fronts_both : (a b : List (List ℕ)) (old mid new : Puts) → mid ≡ grown old a → AddsFront mid new b → AddsFront old new (a ++ b)
fronts_both a b old mid new first second = record {
  front = a ++ second.front;
  part = second.part;
  rest = second.rest;
  whole = ap (λ text. a ++ text) second.whole ∙ sym (append_assoc a second.front second.rest);
  begun = second.begun;
  added =
      second.added ∙ ap (λ o. grown o (second.front ++ second.part)) first ∙ grown_twice old a (second.front ++ second.part)
      ∙ ap (λ text. grown old text) (sym (append_assoc a second.front second.part));
}

-- what was put of texts is of these and of more
begins_more : (part texts more : List (List ℕ)) → Begins part texts → Begins part (texts ++ more)
begins_more [] texts more begun = tt
begins_more (part ∷ parts) [] more begun = absurd begun
begins_more (part ∷ parts) (text ∷ texts) more begun = begun

-- one text and then another
pub writes_both : (a b : List (List ℕ)) (old mid new : Puts) (before between after : ℕ) (result : Result (Unit {0}) OutError) →
    Writes a old mid before between (Ok tt) → Writes b mid new between after result → Writes (a ++ b) old new before after result
writes_both a b old mid new before between after (Ok u) first second = record {
  ok = second.ok ∙ ap (λ o. grown o b) first.ok ∙ grown_twice old a b;
  front = fronts_both a b old mid new first.ok second.front;
  later = omega arith;
  cause = λ failed. absurd (cc);
}
writes_both a b old mid new before between after (Err error) first second = record {
  ok = tt;
  front = fronts_both a b old mid new first.ok second.front;
  later = omega arith;
  cause = λ failed. omega (arith, second.cause failed);
}

-- where the first text ends in an error, the second isn't begun
pub writes_first : (a b : List (List ℕ)) (old new : Puts) (before after : ℕ) (error : OutError) →
    Writes a old new before after (Err error) → Writes (a ++ b) old new before after (Err error)
writes_first a b old new before after error first = record {
  ok = tt;
  front = record {
    front = first.front.front;
    part = first.front.part;
    rest = first.front.rest ++ b;
    whole = ap (λ text. text ++ b) first.front.whole ∙ append_assoc first.front.front first.front.rest b;
    begun = begins_more first.front.part first.front.rest b first.front.begun;
    added = first.front.added;
  };
  later = first.later;
  cause = first.cause;
}

joined_append : {A : Type 0} (xs ys : List (List A)) → joined (xs ++ ys) ≡ joined xs ++ joined ys
joined_append [] ys = refl
joined_append (x ∷ xs) ys = ap (λ text. x ++ text) (joined_append xs ys) ∙ sym (append_assoc x (joined xs) (joined ys))

-- what is put of a run, one line behind the other, is its text
pub run_text : (edits : List documents.Edit) (reports : List sessions.Report) → joined (run_lines edits reports) ≡ language.text_of edits reports
run_text edits reports = joined_append (edit_lines edits) (report_lines 0 reports)

-- and with one line more
pub ended_text : (edits : List documents.Edit) (reports : List sessions.Report) (last : List ℕ)
    → joined (run_lines edits reports ++ last ∷ []) ≡ language.text_of edits reports ++ last
ended_text edits reports last =
    joined_append (run_lines edits reports) (last ∷ []) ∙ ap (λ (text : List ℕ). text ++ joined (last ∷ [])) (run_text edits reports)
    ∙ ap (λ (text : List ℕ). language.text_of edits reports ++ text) (append-nil last)

-- one more line of some
line_take : (lines : List (List ℕ)) (at : ℕ) (line : List ℕ) → at < length lines → line ≡ get_or lines at line →
    take (at + 1) lines ≡ take at lines ++ line ∷ []
line_take lines at line within is =
    let one : at + 1 ≡ suc at = omega arith in
    ap (λ count. take count lines) one ∙ take-suc lines at line within ∙ ap (λ (l : List ℕ). take at lines ++ l ∷ []) (sym is)

-- the lines before one, it, and the lines after it
line_cut : (lines : List (List ℕ)) (at : ℕ) (line : List ℕ) → at < length lines → line ≡ get_or lines at line →
    lines ≡ (take at lines ++ line ∷ []) ++ drop (at + 1) lines
line_cut lines at line within is =
    sym (take-append-drop (at + 1) lines) ∙ ap (λ text. text ++ drop (at + 1) lines) (line_take lines at line within is)

-- one more line was put
pub line_put : (lines : List (List ℕ)) (at : ℕ) (line : List ℕ) (old mid new : Puts) (before between after : ℕ) → at < length lines → line ≡ get_or lines at line →
    Writes (take at lines) old mid before between (Ok tt) → Writes (line ∷ []) mid new between after (Ok tt) → Writes (take (at + 1) lines) old new before after (Ok tt)
line_put lines at line old mid new before between after within is first second =
    subst (λ (text : List (List ℕ)). Writes text old new before after (Ok tt)) (sym (line_take lines at line within is))
    (writes_both (take at lines) (line ∷ []) old mid new before between after (Ok tt) first second)

-- one more line was not put, and then none
pub line_failed : (lines : List (List ℕ)) (at : ℕ) (line : List ℕ) (old mid new : Puts) (before between after : ℕ) (error : OutError) → at < length lines → line ≡ get_or lines at line →
    Writes (take at lines) old mid before between (Ok tt) → Writes (line ∷ []) mid new between after (Err error) → Writes lines old new before after (Err error)
line_failed lines at line old mid new before between after error within is first second =
    subst (λ (text : List (List ℕ)). Writes text old new before after (Err error)) (sym (line_cut lines at line within is))
    (writes_first (take at lines ++ line ∷ []) (drop (at + 1) lines) old new before after error
    (writes_both (take at lines) (line ∷ []) old mid new before between after (Err error) first second))

-- all lines were put
pub lines_put : (lines : List (List ℕ)) (at : ℕ) (old new : Puts) (before after : ℕ) → length lines ≤ at →
    Writes (take at lines) old new before after (Ok tt) → Writes lines old new before after (Ok tt)
lines_put lines at old new before after all put =
    subst (λ (text : List (List ℕ)). Writes text old new before after (Ok tt)) (take_all at lines all) put

-- the same of parts of some lines each

joined_take : (parts : List (List (List ℕ))) (at : ℕ) (part : List (List ℕ)) → at < length parts → part ≡ get_or parts at part →
    joined (take (at + 1) parts) ≡ joined (take at parts) ++ part
joined_take parts at part within is =
    let one : at + 1 ≡ suc at = omega arith in
    ap (λ count. joined (take count parts)) one ∙ ap joined (take-suc parts at part within)
    ∙ joined_append (take at parts) (get_or parts at part ∷ [])
    ∙ ap (λ text. joined (take at parts) ++ text) (append-nil (get_or parts at part) ∙ sym is)

joined_cut : (parts : List (List (List ℕ))) (at : ℕ) (part : List (List ℕ)) → at < length parts → part ≡ get_or parts at part →
    joined parts ≡ (joined (take at parts) ++ part) ++ joined (drop (at + 1) parts)
joined_cut parts at part within is =
    ap joined (sym (take-append-drop (at + 1) parts)) ∙ joined_append (take (at + 1) parts) (drop (at + 1) parts)
    ∙ ap (λ text. text ++ joined (drop (at + 1) parts)) (joined_take parts at part within is)

-- one more part was put
pub part_put : (parts : List (List (List ℕ))) (at : ℕ) (part : List (List ℕ)) (old mid new : Puts) (before between after : ℕ) → at < length parts → part ≡ get_or parts at part →
    Writes (joined (take at parts)) old mid before between (Ok tt) → Writes part mid new between after (Ok tt) → Writes (joined (take (at + 1) parts)) old new before after (Ok tt)
part_put parts at part old mid new before between after within is first second =
    subst (λ (text : List (List ℕ)). Writes text old new before after (Ok tt)) (sym (joined_take parts at part within is))
    (writes_both (joined (take at parts)) part old mid new before between after (Ok tt) first second)

-- one more part was not put whole, and then none
pub part_failed : (parts : List (List (List ℕ))) (at : ℕ) (part : List (List ℕ)) (old mid new : Puts) (before between after : ℕ) (error : OutError) → at < length parts → part ≡ get_or parts at part →
    Writes (joined (take at parts)) old mid before between (Ok tt) → Writes part mid new between after (Err error) → Writes (joined parts) old new before after (Err error)
part_failed parts at part old mid new before between after error within is first second =
    subst (λ (text : List (List ℕ)). Writes text old new before after (Err error)) (sym (joined_cut parts at part within is))
    (writes_first (joined (take at parts) ++ part) (joined (drop (at + 1) parts)) old new before after error
    (writes_both (joined (take at parts)) part old mid new before between after (Err error) first second))

-- all parts were put
pub parts_put : (parts : List (List (List ℕ))) (at : ℕ) (old new : Puts) (before after : ℕ) → length parts ≤ at →
    Writes (joined (take at parts)) old new before after (Ok tt) → Writes (joined parts) old new before after (Ok tt)
parts_put parts at old new before after all put =
    subst (λ (text : List (List ℕ)). Writes text old new before after (Ok tt)) (ap joined (take_all at parts all)) put

edits_length : (edits : List Edit) → length (lines_of edits) ≡ length edits
edits_length [] = refl
edits_length (edit ∷ edits) = ap suc (edits_length edits)

-- the line of an edit among all lines
line_at : (edits : List Edit) (at : ℕ) (edit : Edit) → at < length edits → edit ≡ get_or edits at edit → line_of edit ≡ get_or (lines_of edits) at (line_of edit)
line_at [] at edit within is = absurd (omega arith)
line_at (first ∷ edits) zero edit within is = ap line_of is
line_at (first ∷ edits) (suc at) edit within is = line_at edits at edit (omega arith) is

pub edit_put : (edits : List Edit) (at : ℕ) (edit : Edit) (old mid new : Puts) (before between after : ℕ) → at < length edits → edit ≡ get_or edits at edit →
    Writes (take at (lines_of edits)) old mid before between (Ok tt) → Writes (line_of edit ∷ []) mid new between after (Ok tt) →
    Writes (take (at + 1) (lines_of edits)) old new before after (Ok tt)
edit_put edits at edit old mid new before between after within is first second =
    line_put (lines_of edits) at (line_of edit) old mid new before between after (rw (edits_length edits) within) (line_at edits at edit within is) first second

pub edit_failed : (edits : List Edit) (at : ℕ) (edit : Edit) (old mid new : Puts) (before between after : ℕ) (error : OutError) → at < length edits → edit ≡ get_or edits at edit →
    Writes (take at (lines_of edits)) old mid before between (Ok tt) → Writes (line_of edit ∷ []) mid new between after (Err error) →
    Writes (lines_of edits) old new before after (Err error)
edit_failed edits at edit old mid new before between after error within is first second =
    line_failed (lines_of edits) at (line_of edit) old mid new before between after error (rw (edits_length edits) within) (line_at edits at edit within is) first second

pub edits_put : (edits : List Edit) (at : ℕ) (old new : Puts) (before after : ℕ) → length edits ≤ at →
    Writes (take at (lines_of edits)) old new before after (Ok tt) → Writes (lines_of edits) old new before after (Ok tt)
edits_put edits at old new before after all put = lines_put (lines_of edits) at old new before after (rw (edits_length edits) all) put

reports_length : (number : ℕ) (reports : List Report) → length (report_lines_from number reports) ≡ length reports
reports_length number [] = refl
reports_length number (report ∷ reports) = ap suc (reports_length (number + 1) reports)

-- the line of a report among all lines
report_at : (number : ℕ) (reports : List Report) (at : ℕ) (report : Report) → at < length reports → report ≡ get_or reports at report →
    report_line_of (number + at) report ≡ get_or (report_lines_from number reports) at (report_line_of (number + at) report)
report_at number [] at report within is = absurd (omega arith)
report_at number (first ∷ reports) zero report within is = ap (λ count. report_line_of count report) (add-zero number) ∙ ap (report_line_of number) is
report_at number (first ∷ reports) (suc at) report within is =
    let later : (number + 1) + at ≡ number + suc at = omega arith in
    subst (λ (count : ℕ). report_line_of count report ≡ get_or (report_lines_from (number + 1) reports) at (report_line_of count report)) later
    (report_at (number + 1) reports at report (omega arith) is)

report_from : (reports : List Report) (at : ℕ) (report : Report) → at < length reports → report ≡ get_or reports at report →
    report_line_of at report ≡ get_or (report_lines_from 0 reports) at (report_line_of at report)
report_from reports at report within is = rw (zero-add at) at (report_at 0 reports at report within is)

pub report_put : (reports : List Report) (at : ℕ) (report : Report) (old mid new : Puts) (before between after : ℕ) → at < length reports → report ≡ get_or reports at report →
    Writes (take at (report_lines_from 0 reports)) old mid before between (Ok tt) → Writes (report_line_of at report ∷ []) mid new between after (Ok tt) →
    Writes (take (at + 1) (report_lines_from 0 reports)) old new before after (Ok tt)
report_put reports at report old mid new before between after within is first second =
    line_put (report_lines_from 0 reports) at (report_line_of at report) old mid new before between after (rw (reports_length 0 reports) within) (report_from reports at report within is) first second

pub report_failed : (reports : List Report) (at : ℕ) (report : Report) (old mid new : Puts) (before between after : ℕ) (error : OutError) → at < length reports → report ≡ get_or reports at report →
    Writes (take at (report_lines_from 0 reports)) old mid before between (Ok tt) → Writes (report_line_of at report ∷ []) mid new between after (Err error) →
    Writes (report_lines_from 0 reports) old new before after (Err error)
report_failed reports at report old mid new before between after error within is first second =
    line_failed (report_lines_from 0 reports) at (report_line_of at report) old mid new before between after error (rw (reports_length 0 reports) within) (report_from reports at report within is) first second

pub reports_put : (reports : List Report) (at : ℕ) (old new : Puts) (before after : ℕ) → length reports ≤ at →
    Writes (take at (report_lines_from 0 reports)) old new before after (Ok tt) → Writes (report_lines_from 0 reports) old new before after (Ok tt)
reports_put reports at old new before after all put = lines_put (report_lines_from 0 reports) at old new before after (rw (reports_length 0 reports) all) put
