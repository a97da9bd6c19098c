-- The numbers of a table, as rows come, change and go.
use Rattle.std.proofs.Common.{ℕ, Bool, true, false, List, [], ◌∷◌, ◌++◌, ◌≡◌, ◌||◌, refl, sym, ap, ◌∙◌, nat_eq}
use Rattle.std.specs.Prelude.{Option, Some, None, is_some, option_map, if◌then◌else◌}
use Rattle.std.proofs.lemmas.Bool.{eqb-true}
use Rattle.rt_model.specs.Lists.{at, put, without, drop_number, has, or_else}
use Rattle.rt_model.proofs.Maps.{by_test, pick_true, pick_false}
use Rattle.run_owed.specs.Lists.{numbers_of, values_of}

module _ {A : Type 0} where
  -- a number is there where a row has it
  pub numbers_has : (es : List (ℕ × A)) (n : ℕ) → has (numbers_of es) n ≡ is_some (at es n)
  numbers_has [] n = refl
  numbers_has (e ∷ es) n = by (nat_eq e.0 n) (numbers_has es n)
    where
      by : (b : Bool) → has (numbers_of es) n ≡ is_some (at es n) → (b || has (numbers_of es) n) ≡ is_some (if b then Some e.1 else at es n)
      by true h = refl
      by false h = h

  pub numbers_more : (es : List (ℕ × A)) (n : ℕ) (a : A) → numbers_of (es ++ (n, a) ∷ []) ≡ numbers_of es ++ n ∷ []
  numbers_more [] n a = refl
  numbers_more (e ∷ es) n a = ap (λ ns. e.0 ∷ ns) (numbers_more es n a)

  -- a row that is put in the place of another
  pub numbers_put : (es : List (ℕ × A)) (n : ℕ) (a b : A) → at es n ≡ Some b → numbers_of (put es n a) ≡ numbers_of es
  numbers_put [] n a b h = absurd (none h)
    where
      none : {o : A} → ◌≡◌ {A = Option A} None (Some o) → ⊥
      none h = cc
  numbers_put (e ∷ es) n a b h =
      by_test (nat_eq e.0 n)
      (λ q. ap (λ (xs : List (ℕ × A)). numbers_of xs) (pick_true ((n, a) ∷ es) (e ∷ put es n a) q) ∙ ap (λ m. m ∷ numbers_of es) (sym (eqb-true e.0 n q)))
      (
      λ q.
      ap (λ (xs : List (ℕ × A)). numbers_of xs) (pick_false ((n, a) ∷ es) (e ∷ put es n a) q)
      ∙ ap (λ ns. e.0 ∷ ns) (numbers_put es n a b (sym (pick_false (Some e.1) (at es n) q) ∙ h))
      )

  -- the rows of a number go
  pub numbers_without : (es : List (ℕ × A)) (n : ℕ) → numbers_of (without es n) ≡ drop_number (numbers_of es) n
  numbers_without [] n = refl
  numbers_without (e ∷ es) n = by (nat_eq e.0 n) (numbers_without es n)
    where
      by : (b : Bool) → numbers_of (without es n) ≡ drop_number (numbers_of es) n
          → numbers_of (if b then without es n else e ∷ without es n) ≡ (if b then drop_number (numbers_of es) n else e.0 ∷ drop_number (numbers_of es) n)
      by true h = h
      by false h = ap (λ ns. e.0 ∷ ns) h

module _ {A : Type 0} (value : A → ℕ) where
  -- the rows of a table, each with one value

  pub values_numbers : (es : List (ℕ × A)) → numbers_of (values_of value es) ≡ numbers_of es
  values_numbers [] = refl
  values_numbers (e ∷ es) = ap (λ ns. e.0 ∷ ns) (values_numbers es)

  pub values_at : (es : List (ℕ × A)) (n : ℕ) → at (values_of value es) n ≡ option_map value (at es n)
  values_at [] n = refl
  values_at (e ∷ es) n = by (nat_eq e.0 n) (values_at es n)
    where
      by : (b : Bool) → at (values_of value es) n ≡ option_map value (at es n)
          → (if b then Some (value e.1) else at (values_of value es) n) ≡ option_map value (if b then Some e.1 else at es n)
      by true h = refl
      by false h = h

  pub values_more : (es : List (ℕ × A)) (n : ℕ) (a : A) → values_of value (es ++ (n, a) ∷ []) ≡ values_of value es ++ (n, value a) ∷ []
  values_more [] n a = refl
  values_more (e ∷ es) n a = ap (λ rest. (e.0, value e.1) ∷ rest) (values_more es n a)

  -- a row that is put in the place of one with the same value
  pub values_put : (es : List (ℕ × A)) (n : ℕ) (a b : A) → at es n ≡ Some b → value a ≡ value b → values_of value (put es n a) ≡ values_of value es
  values_put [] n a b h same = absurd (none h)
    where
      none : {o : A} → ◌≡◌ {A = Option A} None (Some o) → ⊥
      none h = cc
  values_put (e ∷ es) n a b h same =
      by_test (nat_eq e.0 n)
      (
      λ q.
      let own : Some e.1 ≡ Some b = sym (pick_true (Some e.1) (at es n) q) ∙ h in
      ap (λ (xs : List (ℕ × A)). values_of value xs) (pick_true ((n, a) ∷ es) (e ∷ put es n a) q)
      ∙ (λ i. (sym (eqb-true e.0 n q) i, (same ∙ sym (ap (λ o. or_else (value b) (option_map value o)) own)) i) ∷ values_of value es)
      )
      (
      λ q.
      ap (λ (xs : List (ℕ × A)). values_of value xs) (pick_false ((n, a) ∷ es) (e ∷ put es n a) q)
      ∙ ap (λ rest. (e.0, value e.1) ∷ rest) (values_put es n a b (sym (pick_false (Some e.1) (at es n) q) ∙ h) same)
      )

  -- the rows of a number go
  pub values_without : (es : List (ℕ × A)) (n : ℕ) → values_of value (without es n) ≡ without (values_of value es) n
  values_without [] n = refl
  values_without (e ∷ es) n = by (nat_eq e.0 n) (values_without es n)
    where
      by : (b : Bool) → values_of value (without es n) ≡ without (values_of value es) n
          → values_of value (if b then without es n else e ∷ without es n)
          ≡ (if b then without (values_of value es) n else (e.0, value e.1) ∷ without (values_of value es) n)
      by true h = h
      by false h = ap (λ rest. (e.0, value e.1) ∷ rest) h
