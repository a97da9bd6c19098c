-- What a binary search finds among rows whose numbers rise.
use Rattle.std.proofs.Common.{◌≡◌, ◌≢◌, ℕ, zero, suc, ◌+◌, ◌<◌, ◌≤◌, List, [], ◌∷◌, length, get_or, Result, Ok, Err, None, IfSome, IfNone, ap, subst, sym, arith}
use Rattle.std.specs.Ordering.{nat_cmp, ordering_index}
use Rattle.std.specs.Result.{result_ok}
use Rattle.std.specs.List.Sorted.{IsSearchInRange, IsBinarySearchResult, IsNonDecreasingBy}
use Rattle.std.proofs.lemmas.Cmp.{ranked}
use Rattle.std.proofs.lemmas.Bool.Decides.{nat_tests}
use Rattle.rt_model.specs.Lists.{at}
use Rattle.run_table.specs.Found.{IsFirst, Ascends}
use Rattle.run_table.proofs.Rows.{first-start, first-past, first-end}

module _ {A : Type 0} where
  -- every row before an index is passed
  passed : (rows : List (ℕ × A)) (d : ℕ × A) (n i : ℕ) → i ≤ length rows → ((k : ℕ) (e : ℕ × A) → k < i → (get_or rows k e).0 ≢ n) → IsFirst rows n i
  passed rows d n zero within others = first-start rows n
  passed rows d n (suc i) within others =
      subst (IsFirst rows n) {x = i + 1} (omega arith)
      (first-past rows n i d (omega arith) (others i d (omega arith)) (passed rows d n i (omega arith) (λ k e below. others k e (omega arith))))

  pub first-before : (rows : List (ℕ × A)) (n i : ℕ) → i ≤ length rows → ((k : ℕ) (e : ℕ × A) → k < i → (get_or rows k e).0 ≢ n) → IsFirst rows n i
  first-before [] n i within others = subst (IsFirst [] n) {x = 0} (omega arith) (first-start [] n)
  first-before (row ∷ rows) n i within others = passed (row ∷ rows) row n i within others

  module _ (rows : List (ℕ × A)) (up : Ascends rows) (n : ℕ) where
    -- the comparisons with the number rise along the rows, as a binary search asks
    comparisons-rise : IsNonDecreasingBy (λ row. ordering_index (nat_cmp row.0 n)) rows
    comparisons-rise i j d le within =
        let rise : (get_or rows i d).0 ≤ (get_or rows j d).0 = grind (arith, up i j d, λ (same : i ≡ j). ap (λ k. (get_or rows k d).0) same) in
        grind (arith, nat_tests)

    -- a search ends at the number's row, which no other row of it precedes, or there is none
    pub searched : (r : Result ℕ ℕ) → IsSearchInRange r (length rows) → IsBinarySearchResult (λ row. nat_cmp row.0 n) rows r
        → record {
          within : IfSome (result_ok r) (λ i. i < length rows);
          first : IfSome (result_ok r) (λ i. IsFirst rows n i);
          own : IfSome (result_ok r) (λ i. (row : ℕ × A) → (get_or rows i row).0 ≡ n);
          absent : IfNone (result_ok r) (at rows n ≡ None);
        }
    searched (Ok i) within equal =
        let own : (row : ℕ × A) → (get_or rows i row).0 ≡ n = λ row. ranked _ n _ (sym (equal row)) in
        record {
          within = within;
          first = first-before rows n i (omega arith) (λ k e below same. omega (arith, up k i e below within, own e));
          own = own;
          absent = tt;
        }
    searched (Err i) within parted =
        let parts = parted comparisons-rise in
        let less : (k : ℕ) (e : ℕ × A) → k < i → (get_or rows k e).0 < n = λ k e below. ranked _ n _ (sym (parts.0 k e (omega arith) below)) in
        let greater : (k : ℕ) (e : ℕ × A) → i ≤ k → k < length rows → n < (get_or rows k e).0 = λ k e from to. ranked _ n _ (sym (parts.1 k e from to)) in
        let other : (k : ℕ) (e : ℕ × A) → k < length rows → (get_or rows k e).0 ≢ n = λ k e to same. grind (arith, less k e, greater k e) in
        record {
          within = tt;
          first = tt;
          own = tt;
          absent = first-end rows n (length rows) (omega arith) (first-before rows n (length rows) (omega arith) other);
        }

    -- a row that has the number is the first that has it
    pub first-own : (i : ℕ) → i < length rows → ((row : ℕ × A) → (get_or rows i row).0 ≡ n) → IsFirst rows n i
    first-own i within own = first-before rows n i (omega arith) (λ k e below same. omega (arith, up k i e below within, own e))
