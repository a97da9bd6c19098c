-- What a binary search in a list in strict order tells of a key.
use Rattle.std.proofs.Common.{◌≡◌, ℕ, ◌≤◌, List, length, get_or, Result, Ok, Err, inl, inr, refl, sym, ap, ◌∙◌, arith}
use Rattle.std.specs.declared.cmp.Ordering.{Ordering}
use Rattle.std.specs.declared.cmp.Ordering.TheVariants.{Less, Equal, Greater}
use Rattle.std.specs.Ordering.{is_eq, eq_by_cmp, ordering_index, ordering_reverse}
use Rattle.std.specs.Cmp.{IsTotalOrder}
use Rattle.std.specs.Result.{is_ok}
use Rattle.std.specs.List.{list_any}
use Rattle.std.specs.List.Sorted.{IsStrictlySortedBy, IsBinarySearchResult, IsSearchInRange, IsNonDecreasingBy}
use Rattle.std.proofs.lemmas.List.{get_or_default}
use Rattle.std.proofs.lemmas.List.Folds.{list_any-from_Any, list_any_none}
use Rattle.std.proofs.lemmas.Map.Keys.{Less-from_sorted}
use Rattle.std.proofs.lemmas.Bool.{cases_lt}

at_most_two : (r : Ordering) → ordering_index r ≤ 2
at_most_two Less = omega arith
at_most_two Equal = omega arith
at_most_two Greater = omega arith

module _ {K : Type 0} {R : K → K → Ordering} (o : IsTotalOrder R) where
  pub tie_turned : (x y : K) → eq_by_cmp R x y ≡ is_eq (R y x)
  tie_turned x y = elim (R y x) as (λ r. R y x ≡ r → is_eq (R x y) ≡ is_eq r) [
    | Less ↦ λ e. ap is_eq (o.antisymm x y ∙ ap ordering_reverse e)
    | Equal ↦ λ e. ap is_eq (o.antisymm x y ∙ ap ordering_reverse e)
    | Greater ↦ λ e. ap is_eq (o.antisymm x y ∙ ap ordering_reverse e)
  ] refl

  below_tied : (x y z : K) → R x y ≡ Less → R y z ≡ Equal → R x z ≡ Less
  below_tied x y z less tie = o.antisymm x z ∙ ap ordering_reverse (sym (o.congr y z x tie)) ∙ sym (o.antisymm x y) ∙ less

  index_rises : (x y z : K) → R x y ≡ Less → ordering_index (R x z) ≤ ordering_index (R y z)
  index_rises x y z less =
      elim (R y z) as (λ r. R y z ≡ r → ordering_index (R x z) ≤ ordering_index r) [
        | Less ↦ λ e. rw (o.trans x y z less e) (omega arith)
        | Equal ↦ λ e. rw (below_tied x y z less e) (omega arith)
        | Greater ↦ λ e. at_most_two (R x z)
      ] refl

  pub rises : (xs : List K) (z : K) → IsStrictlySortedBy R xs → IsNonDecreasingBy (λ y. ordering_index (R y z)) xs
  rises xs z sorted i j d i_le_j j_within =
      elim (cases_lt i j) [
        | inl below ↦ index_rises (get_or xs i d) (get_or xs j d) z (Less-from_sorted R xs i j d sorted below j_within)
        | inr above ↦ (let same : i ≡ j = omega arith in rw same (omega arith))
      ]

  pub search_finds : (xs : List K) (x : K) (r : Result ℕ ℕ) → IsStrictlySortedBy R xs → IsBinarySearchResult (λ y. R y x) xs r → IsSearchInRange r (length xs)
      → is_ok r ≡ list_any (eq_by_cmp R x) xs
  search_finds xs x (Ok i) sorted found within =
      sym (list_any-from_Any (eq_by_cmp R x) xs (i, get_or xs i x, within, get_or_default xs i (get_or xs i x) x within, tie_turned x (get_or xs i x) ∙ ap is_eq (found x)))
  search_finds xs x (Err i) sorted parts within =
      sym (list_any_none (eq_by_cmp R x) xs (λ k d k_within.
      elim (cases_lt k i) [
        | inl below ↦ tie_turned x (get_or xs k d) ∙ ap is_eq ((parts (rises xs x sorted)).0 k d (omega arith) below)
        | inr above ↦ tie_turned x (get_or xs k d) ∙ ap is_eq ((parts (rises xs x sorted)).1 k d above k_within)
      ]))
