-- A scan of a list in strict order from a key on, as long as a test holds, finds all that pass the test.
use Rattle.std.proofs.Common.{◌≡◌, List, [], ◌∷◌, Bool, true, false, cond, ◌&&◌, refl, sym, ap, ◌∙◌}
use mathlib.Core.Bool.{true≢false}
use Rattle.std.specs.declared.cmp.Ordering.{Ordering}
use Rattle.std.specs.declared.cmp.Ordering.TheVariants.{Less}
use Rattle.std.specs.declared.ops.Bound.TheVariants.{Included, Unbounded}
use Rattle.std.specs.Ordering.{is_le}
use Rattle.std.specs.List.{filter, take_while, AllByRecursion}
use Rattle.std.specs.List.Sorted.{IsStrictlySortedBy}
use Rattle.std.specs.BTreeMap.Range.{range_contains}
use Rattle.std.proofs.lemmas.List.Sums.{take_while-cons}
use Rattle.std.proofs.lemmas.Map.Keys.{sorted_head, sorted_tail}

module _ {K : Type 0} (test : K → Bool) where
  -- a scan takes what passes
  pub goes_on : (x : K) (xs : List K) → test x ≡ true → take_while test (x ∷ xs) ≡ x ∷ take_while test xs
  goes_on x xs passes = take_while-cons test x xs ∙ ap (λ b. cond b (x ∷ take_while test xs) []) passes

  -- a scan ends at what fails
  pub stops : (x : K) (xs : List K) → test x ≡ false → take_while test (x ∷ xs) ≡ []
  stops x xs fails = take_while-cons test x xs ∙ ap (λ b. cond b (x ∷ take_while test xs) []) fails

module _ {K : Type 0} (R : K → K → Ordering) (lo : K) (test : K → Bool)
    (starts : (q : K) → test q ≡ true → is_le (R lo q) ≡ true)
    (convex : (x y : K) → is_le (R lo x) ≡ true → R x y ≡ Less → test y ≡ true → test x ≡ true) where
  -- behind a key from the start on that fails, all fail
  none_behind : (x : K) (xs : List K) → is_le (R lo x) ≡ true → test x ≡ false → AllByRecursion (λ y. R x y ≡ Less) xs → filter test xs ≡ []
  none_behind x [] from fails all = refl
  none_behind x (y ∷ ys) from fails all =
      elim (test y) as (λ b. test y ≡ b → cond b (y ∷ filter test ys) (filter test ys) ≡ []) [
        | true ↦ λ passes. absurd (true≢false (sym (convex x y from all.0 passes) ∙ fails))
        | false ↦ λ _. none_behind x ys from fails all.1
      ] refl

  pub scan : (ks : List K) → IsStrictlySortedBy R ks → take_while test (filter (range_contains R (Included lo) Unbounded) ks) ≡ filter test ks
  scan [] sorted = refl
  scan (x ∷ xs) sorted =
      elim (is_le (R lo x)) as (λ f. is_le (R lo x) ≡ f → take_while test (cond (f && true) (x ∷ from xs) (from xs)) ≡ cond (test x) (x ∷ filter test xs) (filter test xs)) [
        | true ↦ λ from_start. elim (test x) as (λ t. test x ≡ t → take_while test (x ∷ from xs) ≡ cond t (x ∷ filter test xs) (filter test xs)) [
          | true ↦ λ passes. goes_on test x (from xs) passes ∙ ap (λ ys. x ∷ ys) (scan xs (sorted_tail R x xs sorted))
          | false ↦ λ fails. stops test x (from xs) fails ∙ sym (none_behind x xs from_start fails (sorted_head R x xs sorted))
        ] refl
        | false ↦ λ before. scan xs (sorted_tail R x xs sorted) ∙ sym (ap (λ t. cond t (x ∷ filter test xs) (filter test xs)) (too_early x before))
      ] refl
    where
      from : List K → List K
      from ks = filter (range_contains R (Included lo) Unbounded) ks

      too_early : (x : K) → is_le (R lo x) ≡ false → test x ≡ false
      too_early x before = elim (test x) as (λ t. test x ≡ t → t ≡ false) [
        | true ↦ λ passes. sym (starts x passes) ∙ before
        | false ↦ λ _. refl
      ] refl
