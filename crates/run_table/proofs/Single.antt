-- Where numbers rise each one stands once.
use Rattle.std.proofs.Common.{◌≡◌, ◌≢◌, ℕ, ◌+◌, ◌-◌, ◌<◌, ◌≤◌, List, length, get_or, None, ap, sym, ◌∙◌, arith}
use Rattle.std.specs.Prelude.{remove}
use Rattle.std.proofs.lemmas.List.Edits.{length-remove, get_or-remove_below, get_or-remove_above}
use Rattle.rt_model.specs.Lists.{at, without}
use Rattle.run_table.specs.Found.{Ascends}
use Rattle.run_table.proofs.Rows.{first-end, first-start, without-absent, without-one}
use Rattle.run_table.proofs.Search.{first-before}

module _ {A : Type 0} where
  -- no row has a number that each one is apart from
  none-at : (rows : List (ℕ × A)) (n : ℕ) → ((k : ℕ) (e : ℕ × A) → k < length rows → (get_or rows k e).0 ≢ n) → at rows n ≡ None
  none-at rows n other = first-end rows n (length rows) (omega arith) (first-before rows n (length rows) (omega arith) other)

  -- of no rows
  pub none-empty : (rows : List (ℕ × A)) (n : ℕ) → length rows ≡ 0 → at rows n ≡ None
  none-empty rows n empty = first-end rows n 0 (omega (arith, empty)) (first-start rows n)

  -- of rows of which the last one is below it
  pub none-past : (rows : List (ℕ × A)) (n m : ℕ) → Ascends rows → ((d : ℕ × A) → (get_or rows (length rows - 1) d).0 ≡ m) → m < n → at rows n ≡ None
  none-past rows n m up last less =
      none-at rows n
      (
      λ k e low same.
      let end = length rows - 1 in
      grind (arith, up k end e, (λ (here : k ≡ end). ap (λ j. (get_or rows j e).0) here), last e, same, less)
      )

  -- of rows from which its row went
  none-left : (rows : List (ℕ × A)) (n i : ℕ) → Ascends rows → i < length rows → ((d : ℕ × A) → (get_or rows i d).0 ≡ n) → at (remove rows i) n ≡ None
  none-left rows n i up within own =
      none-at (remove rows i) n
      (
      λ k e low same.
      let key = λ (row : ℕ × A). row.0 in
      let shorter = length-remove rows i within in
      let below : k < i → (get_or (remove rows i) k e).0 ≡ (get_or rows k e).0 = λ before. ap key (get_or-remove_below rows i e k before within) in
      let above : i ≤ k → (get_or (remove rows i) k e).0 ≡ (get_or rows (k + 1) e).0 = λ from. ap key (get_or-remove_above rows i e k from within) in
      grind (arith, below, above, up k i e, up i (k + 1) e, own e, same, shorter)
      )

  -- with its row all rows of a number go
  pub removed-once : (rows : List (ℕ × A)) (n i : ℕ) → Ascends rows → i < length rows → ((d : ℕ × A) → (get_or rows i d).0 ≡ n) → remove rows i ≡ without rows n
  removed-once rows n i up within own = sym (without-absent (remove rows i) n (none-left rows n i up within own)) ∙ without-one rows n i within own
