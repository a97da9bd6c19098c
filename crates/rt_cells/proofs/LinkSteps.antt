-- One more source in the loops over the table of readers.
use Rattle.std.proofs.Common.{◌≡◌, ◌⊎◌, inl, inr, ℕ, ◌+◌, ◌<◌, List, [], ◌∷◌, length, get_or, take, drop, Bool, true, false, cond, not, Result, Ok, Err, ◌&&◌, ◌||◌, refl, sym, ap, ◌∙◌}
use Rattle.std.specs.Result.{OnErr}
use Rattle.std.specs.List.{list_any}
use Rattle.std.specs.BTreeMap.{is_at}
use Rattle.std.proofs.lemmas.List.{take_more, take-append-drop}
use Rattle.std.proofs.lemmas.List.Folds.{list_any-append}
use Rattle.rt_cells.specs.declared.sources.Source.{Source}
use Rattle.rt_cells.specs.declared.sources.Reader.{Reader}
use Rattle.rt_cells.specs.declared.places.Place.{Place}
use Rattle.rt_cells.specs.Places.{place_of}
use Rattle.rt_cells.specs.Reads.{has}
use Rattle.rt_cells.specs.Links.{link_cmp, is_linked, is_let_go}

or-false : (a b : Bool) → (a || (b || false)) ≡ (a || b)
or-false true b = refl
or-false false true = refl
or-false false false = refl

any_more : {X : Type 0} (t : X → Bool) (xs : List X) (i : ℕ) (d : X) → i < length xs → list_any t (take (i + 1) xs) ≡ (list_any t (take i xs) || t (get_or xs i d))
any_more t xs i d within = ap (list_any t) (take_more xs i d within) ∙ list_any-append t (take i xs) (get_or xs i d ∷ []) ∙ or-false (list_any t (take i xs)) (t (get_or xs i d))

any_part : {X : Type 0} (t : X → Bool) (xs : List X) (i : ℕ) → list_any t xs ≡ (list_any t (take i xs) || list_any t (drop i xs))
any_part t xs i = ap (list_any t) (sym (take-append-drop i xs)) ∙ list_any-append t (take i xs) (drop i xs)

put : (t a l : Bool) → cond t true (a || l) ≡ (a || (l || t))
put true true l = refl
put true false true = refl
put true false false = refl
put false true l = refl
put false false true = refl
put false false false = refl

out : (t a l : Bool) → cond t false (a && not l) ≡ (a && not (l || t))
out true true true = refl
out true true false = refl
out true false l = refl
out false true true = refl
out false true false = refl
out false false l = refl

rest : (a l : Bool) → (a && not l) ≡ (a && not (l || false))
rest a true = refl
rest a false = refl

part_or_all : (a l r : Bool) → ((a || l) ≡ a) ⊎ ((a || l) ≡ (a || (l || r)))
part_or_all true l r = inl refl
part_or_all false true r = inr refl
part_or_all false false r = inl refl

module _ (reader : Reader) (sources : List Source) (i : ℕ) (d : Source) (within : i < length sources) (link : Place × Reader) (place : Place) (stands : place ≡ place_of (get_or sources i d)) where
  -- the reader stands beside one more source
  pub entered_more : (a b c : Bool) → c ≡ cond (is_at (link_cmp (place, reader)) link) true b → b ≡ (a || is_linked reader (take i sources) link)
      → c ≡ (a || is_linked reader (take (i + 1) sources) link)
  entered_more a b c after before = after
      ∙ ap (cond (is_at (link_cmp (place, reader)) link) true) before
      ∙ ap (λ p. cond (is_at (link_cmp (p, reader)) link) true (a || is_linked reader (take i sources) link)) stands
      ∙ put _ a _
      ∙ ap (λ l. a || l) (sym (any_more (λ source. is_at (link_cmp (place_of source, reader)) link) sources i d within))

  -- the reader left one more source, which it doesn't keep
  pub left_more : (kept : List Source) (a b c : Bool) → has (get_or sources i d) kept ≡ false → c ≡ cond (is_at (link_cmp (place, reader)) link) false b
      → b ≡ (a && not (is_let_go reader kept (take i sources) link)) → c ≡ (a && not (is_let_go reader kept (take (i + 1) sources) link))
  left_more kept a b c dropped after before = after
      ∙ ap (cond (is_at (link_cmp (place, reader)) link) false) before
      ∙ ap (λ p. cond (is_at (link_cmp (p, reader)) link) false (a && not (is_let_go reader kept (take i sources) link))) stands
      ∙ out _ a _
      ∙ ap (λ h. a && not (is_let_go reader kept (take i sources) link || (not h && is_at (link_cmp (place_of (get_or sources i d), reader)) link))) (sym dropped)
      ∙ ap (λ l. a && not l) (sym (any_more (λ source. not (has source kept) && is_at (link_cmp (place_of source, reader)) link) sources i d within))

-- the reader keeps one more source
pub kept_more : (reader : Reader) (sources : List Source) (i : ℕ) (d : Source) → i < length sources → (link : Place × Reader) (kept : List Source) (a b : Bool)
    → has (get_or sources i d) kept ≡ true → b ≡ (a && not (is_let_go reader kept (take i sources) link)) → b ≡ (a && not (is_let_go reader kept (take (i + 1) sources) link))
kept_more reader sources i d within link kept a b stays before = before
    ∙ rest a _
    ∙ ap (λ h. a && not (is_let_go reader kept (take i sources) link || (not h && is_at (link_cmp (place_of (get_or sources i d), reader)) link))) (sym stays)
    ∙ ap (λ l. a && not l) (sym (any_more (λ source. not (has source kept) && is_at (link_cmp (place_of source, reader)) link) sources i d within))

-- the reader stands beside some of the sources
pub entered_part : (reader : Reader) (sources : List Source) (i : ℕ) (link : Place × Reader) (a c : Bool) → c ≡ (a || is_linked reader (take i sources) link)
    → (c ≡ a) ⊎ (c ≡ (a || is_linked reader sources link))
entered_part reader sources i link a c so_far =
    rw (so_far, any_part (λ source. is_at (link_cmp (place_of source, reader)) link) sources i) (part_or_all a _ _)

-- what holds anyway holds of a refusal
pub on_err : {X E P : Type 0} (r : Result X E) → P → OnErr r P
on_err (Ok x) p = tt
on_err (Err e) p = p
