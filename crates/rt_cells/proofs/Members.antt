-- One more member at its place, and the order of what is left.
use Rattle.std.proofs.Common.{◌≡◌, ℕ, ◌<◌, ◌≤◌, zero, suc, List, [], ◌∷◌, length, true, ◌||◌, Ok, Err, refl, sym, ap, ◌∙◌, arith}
use mathlib.Core.Bool.{true≢false}
use Rattle.std.specs.declared.cmp.Ordering.{Ordering}
use Rattle.std.specs.declared.cmp.Ordering.TheVariants.{Less, Equal, Greater}
use Rattle.std.specs.Ordering.{is_eq, eq_by_cmp, match_ordering, ordering_reverse}
use Rattle.std.specs.Cmp.{IsTotalOrder}
use Rattle.std.specs.List.{list_any, AllWithin, insert}
use Rattle.std.specs.List.Sorted.{IsStrictlySortedBy, IsBinarySearchResult}
use Rattle.std.specs.BTreeSet.{insert_key}
use Rattle.std.proofs.lemmas.Map.Keys.{sorted_head, sorted_tail}
use Rattle.rt_cells.proofs.Sorted.{absent, below_all}
use Rattle.rt_cells.proofs.Searched.{rises, search_finds}

module _ {K : Type 0} {R : K → K → Ordering} (o : IsTotalOrder R) where
  -- a key between those below it and those above it is at its place
  at_place : (xs : List K) (i : ℕ) (k : K) → i ≤ length xs → AllWithin (λ y. R y k ≡ Less) xs 0 i → AllWithin (λ y. R y k ≡ Greater) xs i (length xs) → insert xs i k ≡ insert_key R xs k
  at_place [] zero k within below above = refl
  at_place [] (suc i) k within below above = absurd (omega arith)
  at_place (x ∷ xs) zero k within below above =
      ap (λ r. match_ordering r (k ∷ x ∷ xs) (x ∷ xs) (x ∷ insert_key R xs k)) (sym (o.antisymm k x ∙ ap ordering_reverse (above 0 k (omega arith) (omega arith))))
  at_place (x ∷ xs) (suc i) k within below above =
      ap (λ ys. x ∷ ys) (at_place xs i k (omega arith) (λ j d low high. below (suc j) d (omega arith) (omega arith)) (λ j d low high. above (suc j) d (omega arith) (omega arith)))
      ∙ ap (λ r. match_ordering r (k ∷ x ∷ xs) (x ∷ xs) (x ∷ insert_key R xs k)) (sym (o.antisymm k x ∙ ap ordering_reverse (below 0 k (omega arith) (omega arith))))

  -- a key that is among the keys leaves them
  among : (xs : List K) (k : K) → IsStrictlySortedBy R xs → list_any (eq_by_cmp R k) xs ≡ true → insert_key R xs k ≡ xs
  among [] k sorted is = absurd (true≢false (sym is))
  among (x ∷ xs) k sorted is =
      elim (R k x) as (λ r. R k x ≡ r → (is_eq r || list_any (eq_by_cmp R k) xs) ≡ true → match_ordering r (k ∷ x ∷ xs) (x ∷ xs) (x ∷ insert_key R xs k) ≡ x ∷ xs) [
        | Less ↦ λ e found. absurd (true≢false (sym found ∙ absent o k xs (below_all o k x xs e (sorted_head R x xs sorted))))
        | Equal ↦ λ _ _. refl
        | Greater ↦ λ _ found. ap (λ ys. x ∷ ys) (among xs k (sorted_tail R x xs sorted) found)
      ] refl is

  -- what a search didn't find goes where it says
  pub inserted_at : (xs : List K) (k : K) (i : ℕ) → IsStrictlySortedBy R xs → IsBinarySearchResult (λ y. R y k) xs (Err i) → i ≤ length xs → insert xs i k ≡ insert_key R xs k
  inserted_at xs k i sorted parts within = at_place xs i k within (parts (rises o xs k sorted)).0 (parts (rises o xs k sorted)).1

  -- what a search found is there
  pub found_at : (xs : List K) (k : K) (i : ℕ) → IsStrictlySortedBy R xs → IsBinarySearchResult (λ y. R y k) xs (Ok i) → i < length xs → insert_key R xs k ≡ xs
  found_at xs k i sorted found within = among xs k sorted (sym (search_finds o xs k (Ok i) sorted found within))
