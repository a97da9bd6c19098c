-- A walk through numbered rows, row by row, and what a found row allows.
use Rattle.std.proofs.Common.{◌≡◌, ◌≢◌, ℕ, zero, suc, ◌+◌, ◌<◌, ◌≤◌, List, [], ◌∷◌, ◌++◌, length, get_or, take, drop, refl, ap, sym, ◌∙◌, arith, append_assoc, add-one}
use Rattle.std.specs.Prelude.{remove, slice_set, Some, None}
use Rattle.std.proofs.lemmas.List.{take_more, drop_more, set_split, get_or_default}
use Rattle.std.proofs.lemmas.Grind.{common_steps}
use Rattle.rt_model.specs.Lists.{at, put, without}
use Rattle.run_table.specs.Found.{IsFirst}

module _ {A : Type 0} where
  -- a look and a put meet a row of the number, or go past one of another number
  at-here : (row : ℕ × A) (rows : List (ℕ × A)) (n : ℕ) → row.0 ≡ n → at (row ∷ rows) n ≡ Some row.1
  at-here row rows n own = grind (arith, common_steps)

  at-past : (row : ℕ × A) (rows : List (ℕ × A)) (n : ℕ) → row.0 ≢ n → at (row ∷ rows) n ≡ at rows n
  at-past row rows n other = grind (arith, common_steps)

  put-here : (row : ℕ × A) (rows : List (ℕ × A)) (n : ℕ) (a : A) → row.0 ≡ n → put (row ∷ rows) n a ≡ (n, a) ∷ rows
  put-here row rows n a own = grind (arith, common_steps)

  put-past : (row : ℕ × A) (rows : List (ℕ × A)) (n : ℕ) (a : A) → row.0 ≢ n → put (row ∷ rows) n a ≡ row ∷ put rows n a
  put-past row rows n a other = grind (arith, common_steps)

  -- before the first row none was passed
  pub first-start : (rows : List (ℕ × A)) (n : ℕ) → IsFirst rows n 0
  first-start rows n = record { found = refl; placed = λ a. refl }

  -- a row of another number is passed
  pub first-past : (rows : List (ℕ × A)) (n i : ℕ) (d : ℕ × A) → i < length rows → (get_or rows i d).0 ≢ n → IsFirst rows n i → IsFirst rows n (i + 1)
  first-past rows n i d within other so =
      record {
        found = so.found ∙ ap (λ rest. at rest n) (drop_more rows i d within) ∙ at-past (get_or rows i d) (drop (i + 1) rows) n other;
        placed =
            λ a.
            so.placed a
            ∙ ap (λ rest. take i rows ++ put rest n a) (drop_more rows i d within)
            ∙ ap (λ rest. take i rows ++ rest) (put-past (get_or rows i d) (drop (i + 1) rows) n a other)
            ∙ sym (append_assoc (take i rows) (get_or rows i d ∷ []) (put (drop (i + 1) rows) n a))
            ∙ ap (λ front. front ++ put (drop (i + 1) rows) n a) (sym (take_more rows i d within));
      }

  pub drop-all : (rows : List (ℕ × A)) (i : ℕ) → length rows ≤ i → drop i rows ≡ []
  drop-all rows i end = grind (arith, common_steps)

  -- past the last row
  pub first-end : (rows : List (ℕ × A)) (n i : ℕ) → length rows ≤ i → IsFirst rows n i → at rows n ≡ None
  first-end rows n i end so = so.found ∙ ap (λ rest. at rest n) (drop-all rows i end)

  -- what a look finds at the first row of a number
  pub at-first : (rows : List (ℕ × A)) (n i : ℕ) (d : ℕ × A) → i < length rows → (get_or rows i d).0 ≡ n → IsFirst rows n i → at rows n ≡ Some (get_or rows i d).1
  at-first rows n i d within own so =
      so.found ∙ ap (λ rest. at rest n) (drop_more rows i d within) ∙ at-here (get_or rows i d) (drop (i + 1) rows) n own

  -- and what a put does there
  pub put-first : (rows : List (ℕ × A)) (n i : ℕ) (d : ℕ × A) (a : A) → i < length rows → (get_or rows i d).0 ≡ n → IsFirst rows n i → put rows n a ≡ slice_set rows i (n, a)
  put-first rows n i d a within own so =
      so.placed a
      ∙ ap (λ rest. take i rows ++ put rest n a) (drop_more rows i d within)
      ∙ ap (λ rest. take i rows ++ rest) (put-here (get_or rows i d) (drop (i + 1) rows) n a own)
      ∙ ap (λ k. take i rows ++ (n, a) ∷ drop k rows) (add-one i)
      ∙ sym (set_split rows i (n, a) within)

  -- a put under a number that no row has
  pub put-absent : (rows : List (ℕ × A)) (n : ℕ) (a : A) → at rows n ≡ None → put rows n a ≡ rows ++ (n, a) ∷ []
  put-absent [] n a absent = refl
  put-absent (row ∷ rows) n a absent = grind (arith, common_steps, put-absent rows n a)

  -- the same for the rows that a table stands for: the row is written,
  pub put-row : (rows table : List (ℕ × A)) (n i : ℕ) (a : A) → rows ≡ table → i < length table
      → ((d : ℕ × A) → (get_or table i d).0 ≡ n) → IsFirst table n i → slice_set rows i (n, a) ≡ put table n a
  put-row rows table n i a view within own so =
      ap (λ xs. slice_set xs i (n, a)) view ∙ sym (put-first table n i (n, a) a within (own (n, a)) so)

  -- or its value alone,
  pub put-value : (rows table : List (ℕ × A)) (n i : ℕ) (row : ℕ × A) (a : A) → rows ≡ table → i < length table
      → ((d : ℕ × A) → (get_or table i d).0 ≡ n) → IsFirst table n i → row ≡ get_or rows i row → slice_set rows i (row.0, a) ≡ put table n a
  put-value rows table n i row a view within own so is =
      ap (λ (m : ℕ). slice_set rows i (m, a)) (ap (λ (p : ℕ × A). p.0) is ∙ ap (λ xs. (get_or xs i row).0) view ∙ own row)
      ∙ put-row rows table n i a view within own so

  -- which was there before
  pub value-was : (rows table : List (ℕ × A)) (n i : ℕ) (row : ℕ × A) (old : A) → rows ≡ table → i < length table
      → ((d : ℕ × A) → (get_or table i d).0 ≡ n) → IsFirst table n i → row ≡ get_or rows i row → at table n ≡ Some old → old ≡ row.1
  value-was rows table n i row old view within own so is stood =
      let found : at table n ≡ Some (get_or table i row).1 = at-first table n i row within (own row) so in
      let same : get_or table i row ≡ row = ap (λ xs. get_or xs i row) (sym view) ∙ sym is in
      let whole : Some old ≡ Some row.1 = sym stood ∙ found ∙ ap (λ (p : ℕ × A). Some p.1) same in
      cc

  -- no row has the number, so none is taken out
  pub without-absent : (rows : List (ℕ × A)) (n : ℕ) → at rows n ≡ None → without rows n ≡ rows
  without-absent [] n absent = refl
  without-absent (row ∷ rows) n absent = grind (arith, common_steps, without-absent rows n)

  -- one row of the number is taken out, and the others follow
  without-less : (rows : List (ℕ × A)) (n i : ℕ) (d : ℕ × A) → i < length rows → (get_or rows i d).0 ≡ n → without (remove rows i) n ≡ without rows n
  without-less [] n i d within own = absurd (omega arith)
  without-less (row ∷ rows) n zero d within own = grind (arith, common_steps)
  without-less (row ∷ rows) n (suc i) d within own = grind (arith, common_steps, without-less rows n i d)

  pub without-one : (rows : List (ℕ × A)) (n i : ℕ) → i < length rows → ((d : ℕ × A) → (get_or rows i d).0 ≡ n) → without (remove rows i) n ≡ without rows n
  without-one [] n i within own = absurd (omega arith)
  without-one (row ∷ rows) n i within own = without-less (row ∷ rows) n i row within (own row)

  -- the row at an index, whatever stands for one past the end
  pub row-at : (rows table : List (ℕ × A)) (i : ℕ) (row d : ℕ × A) → rows ≡ table → i < length table → row ≡ get_or rows i row → get_or table i d ≡ row
  row-at rows table i row d view within is = get_or_default table i d row within ∙ ap (λ xs. get_or xs i row) (sym view) ∙ sym is

  -- and a write of its value alone
  pub set-at : (rows table : List (ℕ × A)) (i : ℕ) (row d : ℕ × A) (a : A) → rows ≡ table → i < length table → row ≡ get_or rows i row
      → slice_set rows i (row.0, a) ≡ slice_set table i ((get_or table i d).0, a)
  set-at rows table i row d a view within is =
      ap (λ xs. slice_set xs i (row.0, a)) view ∙ ap (λ (p : ℕ × A). slice_set table i (p.0, a)) (sym (row-at rows table i row d view within is))
