-- A row that is taken out.
use Rattle.std.proofs.Common.{◌≡◌, ℕ, zero, suc, ◌<◌, ◌-◌, List, [], ◌∷◌, ◌++◌, length, get_or, nat_eq, refl, sym, ap, ◌∙◌, arith}
use Rattle.std.specs.Prelude.{remove, if◌then◌else◌}
use Rattle.std.proofs.lemmas.List.{get_or_default}
use Rattle.rt_model.specs.Lists.{without}
use Rattle.rt_model.proofs.Maps.{eq_same, pick_true}
use Rattle.run_table.specs.Found.{IsTaken}

module _ {A : Type 0} where
  -- the row at an index
  pub taken_at : (rows new : List (ℕ × A)) (i n : ℕ) (a : A) → i < length rows → (n, a) ≡ get_or rows i (n, a) → new ≡ remove rows i → IsTaken rows new n a
  taken_at rows new i n a within is less = let parts = at_index rows i within is in record { front = parts.front; back = parts.back; was = parts.was; is = less ∙ parts.is }
    where
      at_index : (es : List (ℕ × A)) (j : ℕ) → j < length es → (n, a) ≡ get_or es j (n, a) → IsTaken es (remove es j) n a
      at_index [] j low q = absurd (omega (arith, low))
      at_index (e ∷ es) zero low q = record { front = []; back = es; was = ap (λ (d : ℕ × A). d ∷ es) (sym q); is = refl }
      at_index (e ∷ es) (suc j) low q =
          let rest = at_index es j (omega (arith, low)) q in
          record { front = e ∷ rest.front; back = rest.back; was = ap (λ (ds : List (ℕ × A)). e ∷ ds) rest.was; is = ap (λ (ds : List (ℕ × A)). e ∷ ds) rest.is }

  -- the row that was found under a number
  pub taken_under : (rows new : List (ℕ × A)) (i n : ℕ) (row : ℕ × A) → i < length rows → ((d : ℕ × A) → (get_or rows i d).0 ≡ n) → row ≡ get_or rows i row → new ≡ remove rows i → IsTaken rows new n row.1
  taken_under rows new i n row within own is less =
      let number : row.0 ≡ n = ap (λ (d : ℕ × A). d.0) is ∙ own row in
      let same : (n, row.1) ≡ row = (λ j. (sym number j, row.1)) in
      taken_at rows new i n row.1 within (same ∙ is ∙ get_or_default rows i row (n, row.1) within) less

  -- the others are the same
  pub without_taken : (rows new : List (ℕ × A)) (n : ℕ) (a : A) → IsTaken rows new n a → without new n ≡ without rows n
  without_taken rows new n a h = ap (λ (es : List (ℕ × A)). without es n) h.is ∙ sym (past h.front) ∙ ap (λ (es : List (ℕ × A)). without es n) (sym h.was)
    where
      past : (front : List (ℕ × A)) → without (front ++ (n, a) ∷ h.back) n ≡ without (front ++ h.back) n
      past [] = pick_true (without h.back n) ((n, a) ∷ without h.back n) (eq_same n)
      past (e ∷ es) = ap (λ (ds : List (ℕ × A)). if nat_eq e.0 n then ds else e ∷ ds) (past es)

  -- one fewer
  pub shorter_taken : (rows new : List (ℕ × A)) (n : ℕ) (a : A) → IsTaken rows new n a → length new < length rows
  shorter_taken rows new n a h =
      let now : length new ≡ length (h.front ++ h.back) = ap (λ (es : List (ℕ × A)). length es) h.is in
      let was : length rows ≡ length (h.front ++ (n, a) ∷ h.back) = ap (λ (es : List (ℕ × A)). length es) h.was in
      let less : length (h.front ++ h.back) < length (h.front ++ (n, a) ∷ h.back) = fewer h.front in
      omega (arith, now, was, less)
    where
      fewer : (front : List (ℕ × A)) → length (front ++ h.back) < length (front ++ (n, a) ∷ h.back)
      fewer [] = omega arith
      fewer (e ∷ es) = let rest : length (es ++ h.back) < length (es ++ (n, a) ∷ h.back) = fewer es in omega (arith, rest)

module _ {A : Type 0} where
  -- a list with one at the end has one
  pub some_last : (es : List A) (e : A) → 0 < length (es ++ e ∷ [])
  some_last [] e = omega arith
  some_last (d ∷ es) e = omega arith

  -- the last one goes
  pub last_off : (es : List A) (e : A) → remove (es ++ e ∷ []) (length (es ++ e ∷ []) - 1) ≡ es
  last_off [] e = refl
  last_off (d ∷ es) e =
      let some = some_last es e in
      let on : length (d ∷ (es ++ e ∷ [])) - 1 ≡ suc (length (es ++ e ∷ []) - 1) = omega (arith, some) in
      ap (λ (k : ℕ). remove (d ∷ (es ++ e ∷ [])) k) on ∙ ap (λ (ds : List A). d ∷ ds) (last_off es e)
