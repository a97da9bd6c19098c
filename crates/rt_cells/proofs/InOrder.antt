-- The distinct items of a list in order: what they are, and that a sort and a `dedup` give them.
use Rattle.std.proofs.Common.{◌≡◌, List, [], ◌∷◌, Bool, true, ◌||◌, refl, sym, ap, ◌∙◌}
use Rattle.std.specs.declared.cmp.Ordering.{Ordering}
use Rattle.std.specs.declared.cmp.Ordering.TheVariants.{Less, Equal, Greater}
use Rattle.std.specs.Ordering.{eq_by_cmp, match_ordering, ordering_reverse}
use Rattle.std.specs.Cmp.{IsTotalOrder, both_ways, Equal-is}
use Rattle.std.specs.List.{list_any, dedup, AllByRecursion}
use Rattle.std.specs.List.Sorted.{IsStrictlySortedBy, IsSorted, IsPermutation}
use Rattle.std.specs.BTreeSet.{insert_key}
use Rattle.std.proofs.lemmas.Cmp.{eq_by_cmp_equiv}
use Rattle.std.proofs.lemmas.List.Kept.{Contains-dedup, Contains-from_dedup, IsStrictlySortedBy-dedup}
use Rattle.std.proofs.lemmas.List.Sorted.{list_any-IsPermutation}
use Rattle.std.proofs.lemmas.Map.Keys.{sorted_head, sorted_tail}
use Rattle.std.proofs.lemmas.Map.Views.{Contains-from_any, list_any-from_Contains}
use Rattle.rt_lemmas.proofs.Bools.{or_swapped as swapped, or_twice as twice}
use Rattle.rt_cells.specs.Reads.{in_order}
use Rattle.rt_cells.proofs.Sorted.{same_list, below_all}

module _ {K : Type 0} {R : K → K → Ordering} (o : IsTotalOrder R) where
  all_inserted : (P : K → Type 0) (xs : List K) (k : K) → AllByRecursion P xs → P k → AllByRecursion P (insert_key R xs k)
  all_inserted P [] k all new = (new, tt)
  all_inserted P (x ∷ xs) k all new =
      elim (R k x) as (λ r. AllByRecursion P (match_ordering r (k ∷ x ∷ xs) (x ∷ xs) (x ∷ insert_key R xs k))) [
        | Less ↦ (new, all)
        | Equal ↦ all
        | Greater ↦ (all.0, all_inserted P xs k all.1 new)
      ]

  pub sorted_inserted : (xs : List K) (k : K) → IsStrictlySortedBy R xs → IsStrictlySortedBy R (insert_key R xs k)
  unfolding IsStrictlySortedBy
  sorted_inserted [] k sorted = (tt, tt)
  sorted_inserted (x ∷ xs) k sorted =
      elim (R k x) as (λ r. R k x ≡ r → IsStrictlySortedBy R (match_ordering r (k ∷ x ∷ xs) (x ∷ xs) (x ∷ insert_key R xs k))) [
        | Less ↦ λ e. ((e, below_all o k x xs e (sorted_head R x xs sorted)), sorted)
        | Equal ↦ λ _. sorted
        | Greater ↦ λ e. (all_inserted (λ y. R x y ≡ Less) xs k (sorted_head R x xs sorted) (o.antisymm x k ∙ ap ordering_reverse e), sorted_inserted xs k (sorted_tail R x xs sorted))
      ] refl

  -- they ascend
  pub sorted_in_order : (xs : List K) → IsStrictlySortedBy R (in_order R xs)
  unfolding IsStrictlySortedBy
  sorted_in_order [] = tt
  sorted_in_order (x ∷ xs) = sorted_inserted (in_order R xs) x (sorted_in_order xs)

  module _ (exact : (x y : K) → R x y ≡ Equal → x ≡ y) where
    pub any_inserted : (q : K) (xs : List K) (k : K) → list_any (eq_by_cmp R q) (insert_key R xs k) ≡ (eq_by_cmp R q k || list_any (eq_by_cmp R q) xs)
    any_inserted q [] k = refl
    any_inserted q (x ∷ xs) k =
        elim (R k x) as (λ r. R k x ≡ r → list_any (eq_by_cmp R q) (match_ordering r (k ∷ x ∷ xs) (x ∷ xs) (x ∷ insert_key R xs k)) ≡ (eq_by_cmp R q k || (eq_by_cmp R q x || list_any (eq_by_cmp R q) xs))) [
          | Less ↦ λ _. refl
          | Equal ↦ λ e. twice (eq_by_cmp R q x) _ ∙ ap (λ z. eq_by_cmp R q z || (eq_by_cmp R q x || list_any (eq_by_cmp R q) xs)) (sym (exact k x e))
          | Greater ↦ λ _. ap (λ b. eq_by_cmp R q x || b) (any_inserted q xs k) ∙ swapped (eq_by_cmp R q x) (eq_by_cmp R q k) _
        ] refl

    -- they are the items
    pub any_in_order : (q : K) (xs : List K) → list_any (eq_by_cmp R q) (in_order R xs) ≡ list_any (eq_by_cmp R q) xs
    any_in_order q [] = refl
    any_in_order q (x ∷ xs) = any_inserted q (in_order R xs) x ∙ ap (λ b. eq_by_cmp R q x || b) (any_in_order q xs)

    -- a list in strict order with the same items is that
    pub in_order_is : (xs ys : List K) → IsStrictlySortedBy R ys → ((q : K) → list_any (eq_by_cmp R q) ys ≡ list_any (eq_by_cmp R q) xs) → ys ≡ in_order R xs
    in_order_is xs ys sorted same = same_list o exact ys (in_order R xs) sorted (sorted_in_order xs) (λ q. same q ∙ sym (any_in_order q xs))

    -- lists of the same items have the same items in order
    pub same_in_order : (xs ys : List K) → ((q : K) → list_any (eq_by_cmp R q) xs ≡ list_any (eq_by_cmp R q) ys) → in_order R xs ≡ in_order R ys
    same_in_order xs ys same = in_order_is ys (in_order R xs) (sorted_in_order xs) (λ q. any_in_order q xs ∙ same q)

    tells : (x y : K) → eq_by_cmp R x y ≡ true → x ≡ y
    tells x y tie = exact x y ((Equal-is (R x y)).0 tie)

    any_dedup : (q : K) (xs : List K) → list_any (eq_by_cmp R q) (dedup (eq_by_cmp R) xs) ≡ list_any (eq_by_cmp R q) xs
    any_dedup q xs = both_ways _ _
        (λ among. list_any-from_Contains (eq_by_cmp_equiv o) q xs (Contains-from_dedup (eq_by_cmp R) xs q (Contains-from_any tells q (dedup (eq_by_cmp R) xs) among)))
        (λ among. list_any-from_Contains (eq_by_cmp_equiv o) q (dedup (eq_by_cmp R) xs) (Contains-dedup (eq_by_cmp_equiv o) tells xs q (Contains-from_any tells q xs among)))

    -- sorted, and each once
    pub sorted_dedup : (E : K → K → Bool) (ties : (x y : K) → E x y ≡ eq_by_cmp R x y) (xs ys zs : List K) → IsPermutation xs ys → IsSorted R ys → zs ≡ dedup E ys → zs ≡ in_order R xs
    sorted_dedup E ties xs ys zs permuted sorted once =
        once ∙ in_order_is xs (dedup E ys) (IsStrictlySortedBy-dedup o ties ys sorted)
        (λ q. ap (λ (same : K → K → Bool). list_any (eq_by_cmp R q) (dedup same ys)) (λ i x y. ties x y i) ∙ any_dedup q ys ∙ sym (list_any-IsPermutation (eq_by_cmp R q) xs ys permuted))
