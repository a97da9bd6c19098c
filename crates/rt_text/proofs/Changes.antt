-- The rows that change, one row on and at the end.
use Rattle.std.proofs.Common.{◌≡◌, ℕ, ◌+◌, ◌<◌, ◌≤◌, Bool, true, false, bytes_eq, List, [], ◌∷◌, ◌++◌, length, drop, get_or, refl, sym, ap, ◌∙◌, append_assoc}
use Rattle.std.proofs.Math.ListN.{drop_of_length-le}
use Rattle.std.proofs.lemmas.List.{append-nil, drop_more}
use Rattle.rt_model.specs.Lists.{Text}
use Rattle.rt_text.specs.declared.rows.Row.{Row}
use Rattle.rt_text.specs.Screens.{changed_rows, unless_same}

before_more : (same : Bool) (at : ℕ) (text : Text) (later : List Row) → unless_same same at text [] ++ later ≡ unless_same same at text later
before_more true at text later = refl
before_more false at text later = refl

-- one row on
pub changed_more : (rows : List Row) (at : ℕ) (old new : List Text) (o n : Text) → at < length old → at < length new
    → o ≡ get_or old at o → n ≡ get_or new at n
    → (rows ++ unless_same (bytes_eq o n) at n []) ++ changed_rows (at + 1) (drop (at + 1) old) (drop (at + 1) new)
    ≡ rows ++ changed_rows at (drop at old) (drop at new)
changed_more rows at old new o n low also is same =
    let later = changed_rows (at + 1) (drop (at + 1) old) (drop (at + 1) new) in
    let olds : drop at old ≡ o ∷ drop (at + 1) old = drop_more old at o low ∙ ap (λ (x : Text). x ∷ drop (at + 1) old) (sym is) in
    let news : drop at new ≡ n ∷ drop (at + 1) new = drop_more new at n also ∙ ap (λ (x : Text). x ∷ drop (at + 1) new) (sym same) in
    append_assoc rows (unless_same (bytes_eq o n) at n []) later
    ∙ ap (λ (more : List Row). rows ++ more) (before_more (bytes_eq o n) at n later)
    ∙ ap (λ (xs : List Text). rows ++ changed_rows at xs (n ∷ drop (at + 1) new)) (sym olds)
    ∙ ap (λ (xs : List Text). rows ++ changed_rows at (drop at old) xs) (sym news)

none_new : (at : ℕ) (old : List Text) → changed_rows at old [] ≡ []
none_new at [] = refl
none_new at (o ∷ old) = refl

changed_end_old : (at : ℕ) (old new : List Text) → length old ≤ at → changed_rows at (drop at old) new ≡ []
changed_end_old at old new end = ap (λ (olds : List Text). changed_rows at olds new) (drop_of_length-le old end)

changed_end_new : (at : ℕ) (old new : List Text) → length new ≤ at → changed_rows at old (drop at new) ≡ []
changed_end_new at old new end = ap (λ (news : List Text). changed_rows at old news) (drop_of_length-le new end) ∙ none_new at old

-- at the end of the old rows, or of the new ones
pub ended_old : (rows all : List Row) (at : ℕ) (old new : List Text) → length old ≤ at → rows ++ changed_rows at (drop at old) new ≡ all → rows ≡ all
ended_old rows all at old new end h =
    sym (append-nil rows) ∙ ap (λ (more : List Row). rows ++ more) (sym (changed_end_old at old new end)) ∙ h

pub ended_new : (rows all : List Row) (at : ℕ) (old new : List Text) → length new ≤ at → rows ++ changed_rows at old (drop at new) ≡ all → rows ≡ all
ended_new rows all at old new end h =
    sym (append-nil rows) ∙ ap (λ (more : List Row). rows ++ more) (sym (changed_end_new at old new end)) ∙ h
