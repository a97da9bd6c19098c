-- Pairs in the order of their firsts, and then of their seconds: those of one first are found side by side.
use Rattle.std.proofs.Common.{◌≡◌, List, [], ◌∷◌, map, Bool, true, false, cond, ◌&&◌, ◌||◌, Some, refl, sym, ap, ◌∙◌}
use mathlib.Core.Bool.{true≢false}
use Rattle.std.specs.declared.cmp.Ordering.{Ordering}
use Rattle.std.specs.declared.cmp.Ordering.TheVariants.{Less, Equal, Greater}
use Rattle.std.specs.declared.ops.Bound.TheVariants.{Included, Unbounded}
use Rattle.std.specs.Ordering.{is_eq, is_le, eq_by_cmp, then_cmp, on, ordering_then, ordering_reverse}
use Rattle.std.specs.Cmp.{IsTotalOrder, Equal-is}
use Rattle.std.specs.List.{list_any, filter, take_while, AllByRecursion}
use Rattle.std.specs.List.Sorted.{IsStrictlySortedBy}
use Rattle.std.specs.Map.{lookup, keys_of}
use Rattle.std.specs.BTreeMap.{is_at}
use Rattle.std.specs.BTreeMap.Range.{range_contains}
use Rattle.std.proofs.lemmas.Map.Keys.{sorted_head, sorted_tail}
use Rattle.rt_cells.specs.Index.{passes}
use Rattle.rt_cells.proofs.Sorted.{same_list, absent, tied_below_all}
use Rattle.rt_cells.proofs.Scan.{scan}

-- two orders in turn tie exactly where both do
pub then_ties : (r s : Ordering) → is_eq (ordering_then r s) ≡ (is_eq r && is_eq s)
then_ties Less s = refl
then_ties Equal s = refl
then_ties Greater s = refl

module _ {K : Type 0} (t u : K → Bool) where
  pub any_same : ((k : K) → t k ≡ u k) → (ks : List K) → list_any t ks ≡ list_any u ks
  any_same same ks = ap (λ (test : K → Bool). list_any test ks) (λ i k. same k i)

module _ {K : Type 0} (t p : K → Bool) where
  pub any-filter : (ks : List K) → list_any t (filter p ks) ≡ list_any (λ k. p k && t k) ks
  any-filter [] = refl
  any-filter (k ∷ ks) =
      elim (p k) as (λ b. list_any t (cond b (k ∷ filter p ks) (filter p ks)) ≡ ((b && t k) || list_any (λ k. p k && t k) ks)) [
        | true ↦ ap (λ b. t k || b) (any-filter ks)
        | false ↦ any-filter ks
      ]

pub any-map : {K L : Type 0} (t : L → Bool) (f : K → L) (ks : List K) → list_any t (map f ks) ≡ list_any (λ k. t (f k)) ks
any-map t f [] = refl
any-map t f (k ∷ ks) = ap (λ b. t (f k) || b) (any-map t f ks)

-- what passes a test and is mapped by what keeps the order there stays in order
module _ {K L : Type 0} (R : K → K → Ordering) (S : L → L → Ordering) (test : K → Bool) (f : K → L)
    (keeps : (x y : K) → test x ≡ true → test y ≡ true → R x y ≡ Less → S (f x) (f y) ≡ Less) where
  all_kept : (x : K) (xs : List K) → test x ≡ true → AllByRecursion (λ y. R x y ≡ Less) xs → AllByRecursion (λ y. S (f x) y ≡ Less) (map f (filter test xs))
  all_kept x [] passes all = tt
  all_kept x (y ∷ ys) passes all =
      elim (test y) as (λ b. test y ≡ b → AllByRecursion (λ y. S (f x) y ≡ Less) (map f (cond b (y ∷ filter test ys) (filter test ys)))) [
        | true ↦ λ too. (keeps x y passes too all.0, all_kept x ys passes all.1)
        | false ↦ λ _. all_kept x ys passes all.1
      ] refl

  pub sorted_kept : (ks : List K) → IsStrictlySortedBy R ks → IsStrictlySortedBy S (map f (filter test ks))
  unfolding IsStrictlySortedBy
  sorted_kept [] sorted = tt
  sorted_kept (x ∷ xs) sorted =
      elim (test x) as (λ b. test x ≡ b → IsStrictlySortedBy S (map f (cond b (x ∷ filter test xs) (filter test xs)))) [
        | true ↦ λ passes. (all_kept x xs passes (sorted_head R x xs sorted), sorted_kept xs (sorted_tail R x xs sorted))
        | false ↦ λ _. sorted_kept xs (sorted_tail R x xs sorted)
      ] refl

module _ {K X : Type 0} (Q : K → K → Ordering) where
  -- keys in order are entries in the order of their keys
  pub sorted_entries : (es : List (K × X)) → IsStrictlySortedBy Q (keys_of es) → IsStrictlySortedBy (on (λ e. e.0) Q) es
  unfolding IsStrictlySortedBy
  sorted_entries [] sorted = tt
  sorted_entries (e ∷ es) sorted = (all_entries es (sorted_head Q e.0 (keys_of es) sorted), sorted_entries es (sorted_tail Q e.0 (keys_of es) sorted))
    where
      all_entries : (es : List (K × X)) → AllByRecursion (λ k. Q e.0 k ≡ Less) (keys_of es) → AllByRecursion (λ d. Q e.0 d.0 ≡ Less) es
      all_entries [] all = tt
      all_entries (d ∷ ds) all = (all.0, all_entries ds all.1)

  -- a key that is below all keys has no entry that passes
  none_among : (p : X → Bool) (q : K) (es : List (K × X)) → list_any (eq_by_cmp Q q) (keys_of es) ≡ false → list_any (λ e. p e.1 && eq_by_cmp Q q e.0) es ≡ false
  none_among p q [] none = refl
  none_among p q (e ∷ es) none =
      elim (eq_by_cmp Q q e.0) as (λ b. (b || list_any (eq_by_cmp Q q) (keys_of es)) ≡ false → ((p e.1 && b) || list_any (λ e. p e.1 && eq_by_cmp Q q e.0) es) ≡ false) [
        | true ↦ λ some. absurd (true≢false some)
        | false ↦ λ rest. elim (p e.1) as (λ c. ((c && false) || list_any (λ e. p e.1 && eq_by_cmp Q q e.0) es) ≡ false) [ true ↦ none_among p q es rest | false ↦ none_among p q es rest ]
      ] none

  -- whether an entry passes with the key is whether what the key finds passes
  pub entry_passes : IsTotalOrder Q → (p : X → Bool) (q : K) (es : List (K × X)) → IsStrictlySortedBy Q (keys_of es)
      → list_any (λ e. p e.1 && eq_by_cmp Q q e.0) es ≡ passes p (lookup (is_at (Q q)) es)
  entry_passes o p q [] sorted = refl
  entry_passes o p q (e ∷ es) sorted =
      elim (Q q e.0) as (λ r. Q q e.0 ≡ r → ((p e.1 && is_eq r) || list_any (λ e. p e.1 && eq_by_cmp Q q e.0) es) ≡ passes p (cond (is_eq r) (Some e.1) (lookup (is_at (Q q)) es))) [
        | Less ↦ λ _. skipped (entry_passes o p q es (sorted_tail Q e.0 (keys_of es) sorted))
        | Equal ↦ λ tie. alone (none_among p q es (absent o q (keys_of es) (tied_below_all o q e.0 (keys_of es) tie (sorted_head Q e.0 (keys_of es) sorted))))
        | Greater ↦ λ _. skipped (entry_passes o p q es (sorted_tail Q e.0 (keys_of es) sorted))
      ] refl
    where
      skipped : {b c : Bool} → b ≡ c → ((p e.1 && false) || b) ≡ c
      skipped {b} {c} same = elim (p e.1) as (λ a. ((a && false) || b) ≡ c) [ true ↦ same | false ↦ same ]

      alone : {b : Bool} → b ≡ false → ((p e.1 && true) || b) ≡ p e.1
      alone {b} none = elim (p e.1) as (λ a. ((a && true) || b) ≡ a) [ true ↦ refl | false ↦ none ]

module _ {A B : Type 0} (P : A → A → Ordering) (Q : B → B → Ordering) where
  -- firsts first
  abbrev lexical : A × B → A × B → Ordering
  lexical = then_cmp (on (λ pair. pair.0) P) (on (λ pair. pair.1) Q)

  abbrev pub begins : A → A × B → Bool
  begins a pair = is_eq (P a pair.0)

module _ {A B : Type 0} (P : A → A → Ordering) (Q : B → B → Ordering) (first_total : IsTotalOrder P) where
  module _ (least : B) (is_least : (b : B) → is_le (Q least b) ≡ true) (a : A) where
    starts : (pair : A × B) → begins P Q a pair ≡ true → is_le (lexical P Q (a, least) pair) ≡ true
    starts pair begun = ap (λ r. is_le (ordering_then r (Q least pair.1))) ((Equal-is (P a pair.0)).0 begun) ∙ is_least pair.1

    convex : (x y : A × B) → is_le (lexical P Q (a, least) x) ≡ true → lexical P Q x y ≡ Less → begins P Q a y ≡ true → begins P Q a x ≡ true
    convex x y from less begun =
        elim (P a x.0) as (λ r. P a x.0 ≡ r → is_eq r ≡ true) [
          | Less ↦ λ e.
              let above : P x.0 y.0 ≡ Greater = first_total.antisymm x.0 y.0
              ∙ ap ordering_reverse (sym (first_total.congr a y.0 x.0 ((Equal-is (P a y.0)).0 begun)) ∙ e) in
              absurd (cc (above, sym less, ap (λ r. ordering_then r (Q x.1 y.1)) above))
          | Equal ↦ λ _. refl
          | Greater ↦ λ e. absurd (true≢false (sym from ∙ ap (λ r. is_le (ordering_then r (Q least x.1))) e))
        ] refl

    -- the scan from the first's least pair on finds all pairs of the first
    pub scan_first : (pairs : List (A × B)) → IsStrictlySortedBy (lexical P Q) pairs
        → take_while (begins P Q a) (filter (range_contains (lexical P Q) (Included (a, least)) Unbounded) pairs) ≡ filter (begins P Q a) pairs
    scan_first pairs sorted = scan (lexical P Q) (a, least) (begins P Q a) starts convex pairs sorted

  module _ (second_total : IsTotalOrder Q) (exact : (x y : B) → Q x y ≡ Equal → x ≡ y) (a : A) where
    pub seconds_rise : (x y : A × B) → begins P Q a x ≡ true → begins P Q a y ≡ true → lexical P Q x y ≡ Less → Q x.1 y.1 ≡ Less
    seconds_rise x y at_x at_y less =
        let tie : P x.0 y.0 ≡ Equal = sym (first_total.congr a x.0 y.0 ((Equal-is (P a x.0)).0 at_x)) ∙ (Equal-is (P a y.0)).0 at_y in
        sym (ap (λ r. ordering_then r (Q x.1 y.1)) tie) ∙ less

    -- which seconds stand by the first
    pub second_found : (b : B) (pairs : List (A × B)) → list_any (eq_by_cmp Q b) (map (λ pair. pair.1) (filter (begins P Q a) pairs)) ≡ list_any (is_at (lexical P Q (a, b))) pairs
    second_found b pairs = any-map (eq_by_cmp Q b) (λ pair. pair.1) (filter (begins P Q a) pairs)
        ∙ any-filter (λ pair. eq_by_cmp Q b pair.1) (begins P Q a) pairs
        ∙ any_same _ _ (λ pair. sym (then_ties (P a pair.0) (Q b pair.1))) pairs

    -- the seconds by the first are the keys of the entries that pass, where the pairs are tied to these
    pub seconds_are : {X : Type 0} (p : X → Bool) (pairs : List (A × B)) (es : List (B × X)) → IsStrictlySortedBy (lexical P Q) pairs → IsStrictlySortedBy Q (keys_of es)
        → ((b : B) → list_any (is_at (lexical P Q (a, b))) pairs ≡ passes p (lookup (is_at (Q b)) es))
        → map (λ pair. pair.1) (filter (begins P Q a) pairs) ≡ map (λ e. e.0) (filter (λ e. p e.1) es)
    seconds_are p pairs es sorted_pairs sorted_keys tied =
        same_list second_total exact _ _
        (sorted_kept (lexical P Q) Q (begins P Q a) (λ pair. pair.1) seconds_rise pairs sorted_pairs)
        (sorted_kept (on (λ e. e.0) Q) Q (λ e. p e.1) (λ e. e.0) (λ x y _ _ less. less) es (sorted_entries Q es sorted_keys))
        (λ b. second_found b pairs ∙ tied b ∙ sym (any-map (eq_by_cmp Q b) (λ e. e.0) (filter (λ e. p e.1) es)
        ∙ any-filter (λ e. eq_by_cmp Q b e.0) (λ e. p e.1) es ∙ entry_passes Q second_total p b es sorted_keys))
