-- Lists in strict order: two with the same items are equal.
use Rattle.std.proofs.Common.{◌≡◌, List, [], ◌∷◌, true, false, ◌||◌, refl, sym, ap, ◌∙◌}
use mathlib.Core.Bool.{true≢false}
use Rattle.std.specs.declared.cmp.Ordering.{Ordering}
use Rattle.std.specs.declared.cmp.Ordering.TheVariants.{Less, Equal, Greater}
use Rattle.std.specs.Ordering.{is_eq, eq_by_cmp, ordering_reverse}
use Rattle.std.specs.Cmp.{IsTotalOrder, tied_itself}
use Rattle.std.specs.List.{list_any, AllByRecursion}
use Rattle.std.specs.List.Sorted.{IsStrictlySortedBy}
use Rattle.std.proofs.lemmas.Map.Keys.{sorted_head, sorted_tail}

-- no items are in order
pub none_in_order : {K : Type 0} (R : K → K → Ordering) → IsStrictlySortedBy R []
unfolding IsStrictlySortedBy
none_in_order R = tt

module _ {K : Type 0} {R : K → K → Ordering} (o : IsTotalOrder R) where
  -- a key below all of a list isn't in it
  pub absent : (q : K) (ys : List K) → AllByRecursion (λ y. R q y ≡ Less) ys → list_any (eq_by_cmp R q) ys ≡ false
  absent q [] all = refl
  absent q (y ∷ ys) all = ap (λ r. is_eq r || list_any (eq_by_cmp R q) ys) all.0 ∙ absent q ys all.1

  -- what is below a key is below all that the key is below
  pub below_all : (q x : K) (ys : List K) → R q x ≡ Less → AllByRecursion (λ y. R x y ≡ Less) ys → AllByRecursion (λ y. R q y ≡ Less) ys
  below_all q x [] less all = tt
  below_all q x (y ∷ ys) less all = (o.trans q x y less all.0, below_all q x ys less all.1)

  -- what ties with a key is below all that the key is below
  pub tied_below_all : (q x : K) (ys : List K) → R q x ≡ Equal → AllByRecursion (λ y. R x y ≡ Less) ys → AllByRecursion (λ y. R q y ≡ Less) ys
  tied_below_all q x [] tie all = tt
  tied_below_all q x (y ∷ ys) tie all = (o.congr q x y tie ∙ all.0, tied_below_all q x ys tie all.1)

  found_first : (x : K) (xs : List K) → list_any (eq_by_cmp R x) (x ∷ xs) ≡ true
  found_first x xs = ap (λ r. is_eq r || list_any (eq_by_cmp R x) xs) (tied_itself o x)

  module _ (exact : (x y : K) → R x y ≡ Equal → x ≡ y) where
    -- two lists in strict order with the same items are equal
    pub same_list : (xs ys : List K) → IsStrictlySortedBy R xs → IsStrictlySortedBy R ys
        → ((q : K) → list_any (eq_by_cmp R q) xs ≡ list_any (eq_by_cmp R q) ys) → xs ≡ ys
    same_list [] [] sx sy same = refl
    same_list [] (y ∷ ys) sx sy same = absurd (true≢false (sym (same y ∙ found_first y ys)))
    same_list (x ∷ xs) [] sx sy same = absurd (true≢false (sym (found_first x xs) ∙ same x))
    same_list (x ∷ xs) (y ∷ ys) sx sy same =
        elim (R x y) as (λ r. R x y ≡ r → x ∷ xs ≡ y ∷ ys) [
          | Less ↦ λ e. absurd (true≢false (sym (found_first x xs) ∙ same x
              ∙ absent x (y ∷ ys) (e, below_all x y ys e (sorted_head R y ys sy))))
          | Equal ↦ λ e. let tails = same_list xs ys (sorted_tail R x xs sx) (sorted_tail R y ys sy) (same_tails e) in λ i. exact x y e i ∷ tails i
          | Greater ↦ λ e. let turned : R y x ≡ Less = o.antisymm y x ∙ ap ordering_reverse e in
              absurd (true≢false (sym (found_first y ys) ∙ sym (same y)
              ∙ absent y (x ∷ xs) (turned, below_all y x xs turned (sorted_head R x xs sx))))
        ] refl
      where
        skipped : (z : K) (zs : List K) (q : K) → is_eq (R q z) ≡ false → list_any (eq_by_cmp R q) (z ∷ zs) ≡ list_any (eq_by_cmp R q) zs
        skipped z zs q apart_from = ap (λ b. b || list_any (eq_by_cmp R q) zs) apart_from

        apart : (q : K) (r : Ordering) → R q x ≡ r → R q y ≡ r → list_any (eq_by_cmp R q) xs ≡ list_any (eq_by_cmp R q) ys
        apart q Less p t = sym (skipped x xs q (ap is_eq p)) ∙ same q ∙ skipped y ys q (ap is_eq t)
        apart q Equal p t = absent q xs (tied_below_all q x xs p (sorted_head R x xs sx)) ∙ sym (absent q ys (tied_below_all q y ys t (sorted_head R y ys sy)))
        apart q Greater p t = sym (skipped x xs q (ap is_eq p)) ∙ same q ∙ skipped y ys q (ap is_eq t)

        same_tails : R x y ≡ Equal → (q : K) → list_any (eq_by_cmp R q) xs ≡ list_any (eq_by_cmp R q) ys
        same_tails e q = apart q (R q x) refl (ap (R q) (sym (exact x y e)))
