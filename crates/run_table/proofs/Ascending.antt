-- Rows whose numbers rise, after a change.
use Rattle.std.proofs.Common.{◌≡◌, ℕ, ◌+◌, ◌-◌, ◌<◌, ◌≤◌, List, [], ◌∷◌, ◌++◌, length, get_or, Bor, Some, None, inl, inr, ap, sym, ◌∙◌, arith}
use Rattle.std.specs.Prelude.{remove, slice_set}
use Rattle.std.proofs.lemmas.List.{get_or_default, length-set, length-append, get_or-set_same, get_or-set_other, get_or_append_left, get_or_push}
use Rattle.std.proofs.lemmas.List.Edits.{length-remove, get_or-remove_below, get_or-remove_above}
use Rattle.std.proofs.lemmas.Bool.{cases_eq}
use Rattle.std.specs.Slice.{IsGetResult}
use Rattle.run_table.specs.Found.{Ascends}

module _ {A : Type 0} where
  -- one row fewer
  pub ascends-removed : (rows : List (ℕ × A)) (at : ℕ) → at < length rows → Ascends rows → Ascends (remove rows at)
  ascends-removed rows at within up i j d lt to =
      let key = λ (row : ℕ × A). row.0 in
      let shorter = length-remove rows at within in
      let below : (k : ℕ) → k < at → (get_or (remove rows at) k d).0 ≡ (get_or rows k d).0 = λ k before. ap key (get_or-remove_below rows at d k before within) in
      let above : (k : ℕ) → at ≤ k → (get_or (remove rows at) k d).0 ≡ (get_or rows (k + 1) d).0 = λ k from. ap key (get_or-remove_above rows at d k from within) in
      grind (arith, below i, below j, above i, above j, up i j d, up i (j + 1) d, up (i + 1) (j + 1) d)

  -- the number of a row stays where another value is written
  pub ascends-set : (rows : List (ℕ × A)) (at n : ℕ) (a : A) → at < length rows → ((d : ℕ × A) → (get_or rows at d).0 ≡ n) → Ascends rows → Ascends (slice_set rows at (n, a))
  ascends-set rows at n a within own up i j d lt to =
      let key = λ (row : ℕ × A). row.0 in
      let same = length-set rows at (n, a) in
      let written : (k : ℕ) → (get_or (slice_set rows at (n, a)) k d).0 ≡ (get_or rows k d).0 = λ k. elim (cases_eq k at) [
        | inl here ↦ rw here (ap key (get_or-set_same rows at (n, a) d within) ∙ sym (own d))
        | inr other ↦ ap key (get_or-set_other rows at k (n, a) d other)
      ] in
      grind (arith, written i, written j, up i j d)

  -- or over the value in it
  pub ascends-value : (rows : List (ℕ × A)) (at : ℕ) (row : ℕ × A) (a : A) → at < length rows → row ≡ get_or rows at row → Ascends rows → Ascends (slice_set rows at (row.0, a))
  ascends-value rows at row a within is =
      ascends-set rows at row.0 a within (λ d. ap (λ (p : ℕ × A). p.0) (get_or_default rows at d row within ∙ sym is))

  -- one row more, of a greater number
  pub ascends-pushed : (rows : List (ℕ × A)) (n : ℕ) (a : A) → ((k : ℕ) (d : ℕ × A) → k + 1 ≡ length rows → (get_or rows k d).0 < n) → Ascends rows → Ascends (rows ++ (n, a) ∷ [])
  ascends-pushed rows n a last up i j d lt to =
      let key = λ (row : ℕ × A). row.0 in
      let longer = length-append rows ((n, a) ∷ []) in
      let before : (k : ℕ) → k < length rows → (get_or (rows ++ (n, a) ∷ []) k d).0 ≡ (get_or rows k d).0 = λ k to. ap key (get_or_append_left rows ((n, a) ∷ []) d k to) in
      let end : (k : ℕ) → length rows ≡ k → (get_or (rows ++ (n, a) ∷ []) k d).0 ≡ n = λ k is. ap key (get_or_push rows (n, a) d k is) in
      grind (arith, before i, before j, end j, up i j d, up i (length rows - 1) d, last (length rows - 1) d, last i d)

  -- the rows that a call for the last one sees
  pub ascends-after : (rows seen : List (ℕ × A)) (n : ℕ) (a : A) (last : Bor (ℕ × A)) → seen ≡ rows → IsGetResult seen 0 (length seen - 1) (Some last)
      → last.now.0 < n → Ascends rows → Ascends (rows ++ (n, a) ∷ [])
  ascends-after rows seen n a last is item less up =
      ascends-pushed rows n a (λ k d ends.
      let here : length seen - 1 ≡ k = omega (arith, ap length is, ends) in
      let read : (get_or rows k d).0 ≡ last.now.0 = ap (λ (p : ℕ × A). p.0) (ap (λ xs. get_or xs k d) (sym is) ∙ ap (λ j. get_or seen j d) (sym here) ∙ sym (item.3.1 d)) in
      omega (arith, read, less)) up

  pub ascends-first : (rows seen : List (ℕ × A)) (n : ℕ) (a : A) → seen ≡ rows → IsGetResult seen 0 (length seen - 1) None → Ascends (rows ++ (n, a) ∷ [])
  ascends-first rows seen n a is item i j d lt to =
      absurd (omega (arith, item.3, ap length is, length-append rows ((n, a) ∷ [])))
