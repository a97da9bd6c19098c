-- A key takes its place among keys that ascend, in place of the one that ties with it.
use Rattle.std.proofs.Common.{◌≡◌, ℕ, ◌<◌, ◌≤◌, zero, suc, List, [], ◌∷◌, length, get_or, slice_set, Ok, Err, refl, sym, ap, ◌∙◌, arith}
use Rattle.std.specs.declared.cmp.Ordering.{Ordering}
use Rattle.std.specs.declared.cmp.Ordering.TheVariants.{Less, Equal, Greater}
use Rattle.std.specs.Ordering.{match_ordering, ordering_reverse}
use Rattle.std.specs.Cmp.{IsTotalOrder}
use Rattle.std.specs.List.{AllByRecursion, AllWithin, insert}
use Rattle.std.specs.List.Sorted.{IsStrictlySortedBy, IsBinarySearchResult}
use Rattle.std.specs.BTreeSet.{replace_key}
use Rattle.std.proofs.lemmas.Map.Keys.{sorted_head, sorted_tail, Less-from_sorted}
use Rattle.rt_cells.proofs.Sorted.{below_all, tied_below_all}
use Rattle.rt_cells.proofs.Searched.{rises}

module _ {K : Type 0} {R : K → K → Ordering} (o : IsTotalOrder R) where
  below_tied : (x y z : K) → R x y ≡ Less → R y z ≡ Equal → R x z ≡ Less
  below_tied x y z less tie = o.antisymm x z ∙ ap ordering_reverse (sym (o.congr y z x tie)) ∙ sym (o.antisymm x y) ∙ less

  -- a key between those below it and those above it is at its place
  at_place : (xs : List K) (i : ℕ) (k : K) → i ≤ length xs → AllWithin (λ y. R y k ≡ Less) xs 0 i → AllWithin (λ y. R y k ≡ Greater) xs i (length xs) → insert xs i k ≡ replace_key R xs k
  at_place [] zero k within below above = refl
  at_place [] (suc i) k within below above = absurd (omega arith)
  at_place (x ∷ xs) zero k within below above =
      ap (λ r. match_ordering r (k ∷ x ∷ xs) (k ∷ xs) (x ∷ replace_key R xs k)) (sym (o.antisymm k x ∙ ap ordering_reverse (above 0 k (omega arith) (omega arith))))
  at_place (x ∷ xs) (suc i) k within below above =
      ap (λ ys. x ∷ ys) (at_place xs i k (omega arith) (λ j d low high. below (suc j) d (omega arith) (omega arith)) (λ j d low high. above (suc j) d (omega arith) (omega arith)))
      ∙ ap (λ r. match_ordering r (k ∷ x ∷ xs) (k ∷ xs) (x ∷ replace_key R xs k)) (sym (o.antisymm k x ∙ ap ordering_reverse (below 0 k (omega arith) (omega arith))))

  -- a key goes where the search says that none ties with it
  pub replaced_new : (xs : List K) (k : K) (i : ℕ) → IsStrictlySortedBy R xs → IsBinarySearchResult (λ y. R y k) xs (Err i) → i ≤ length xs → insert xs i k ≡ replace_key R xs k
  replaced_new xs k i sorted parts within = at_place xs i k within (parts (rises o xs k sorted)).0 (parts (rises o xs k sorted)).1

  tied_there : (xs : List K) (k : K) (i : ℕ) → IsStrictlySortedBy R xs → i < length xs → R (get_or xs i k) k ≡ Equal → slice_set xs i k ≡ replace_key R xs k
  tied_there [] k i sorted within tie = absurd (omega arith)
  tied_there (x ∷ xs) k zero sorted within tie =
      ap (λ r. match_ordering r (k ∷ x ∷ xs) (k ∷ xs) (x ∷ replace_key R xs k)) (sym (o.antisymm k x ∙ ap ordering_reverse tie))
  tied_there (x ∷ xs) k (suc i) sorted within tie =
      let less : R x (get_or xs i k) ≡ Less = Less-from_sorted R (x ∷ xs) 0 (suc i) k sorted (omega arith) within in
      let below : R x k ≡ Less = below_tied x (get_or xs i k) k less tie in
      ap (λ ys. x ∷ ys) (tied_there xs k i (sorted_tail R x xs sorted) (omega (arith, within)) tie)
      ∙ ap (λ r. match_ordering r (k ∷ x ∷ xs) (k ∷ xs) (x ∷ replace_key R xs k)) (sym (o.antisymm k x ∙ ap ordering_reverse below))

  -- or in place of the one that does
  pub replaced_there : (xs : List K) (k : K) (i : ℕ) → IsStrictlySortedBy R xs → IsBinarySearchResult (λ y. R y k) xs (Ok i) → i < length xs → slice_set xs i k ≡ replace_key R xs k
  replaced_there xs k i sorted found within = tied_there xs k i sorted within (found k)

  all_replaced : (P : K → Type 0) (xs : List K) (k : K) → AllByRecursion P xs → P k → AllByRecursion P (replace_key R xs k)
  all_replaced P [] k all new = (new, tt)
  all_replaced P (x ∷ xs) k all new =
      elim (R k x) as (λ r. AllByRecursion P (match_ordering r (k ∷ x ∷ xs) (k ∷ xs) (x ∷ replace_key R xs k))) [
        | Less ↦ (new, all)
        | Equal ↦ (new, all.1)
        | Greater ↦ (all.0, all_replaced P xs k all.1 new)
      ]

  -- the keys still ascend
  pub sorted_replaced : (xs : List K) (k : K) → IsStrictlySortedBy R xs → IsStrictlySortedBy R (replace_key R xs k)
  unfolding IsStrictlySortedBy
  sorted_replaced [] k sorted = (tt, tt)
  sorted_replaced (x ∷ xs) k sorted =
      elim (R k x) as (λ r. R k x ≡ r → IsStrictlySortedBy R (match_ordering r (k ∷ x ∷ xs) (k ∷ xs) (x ∷ replace_key R xs k))) [
        | Less ↦ λ e. ((e, below_all o k x xs e (sorted_head R x xs sorted)), sorted)
        | Equal ↦ λ e. (tied_below_all o k x xs e (sorted_head R x xs sorted), sorted_tail R x xs sorted)
        | Greater ↦ λ e. (all_replaced (λ y. R x y ≡ Less) xs k (sorted_head R x xs sorted) (o.antisymm x k ∙ ap ordering_reverse e), sorted_replaced xs k (sorted_tail R x xs sorted))
      ] refl
