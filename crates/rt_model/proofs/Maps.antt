-- What stands under a number after a change of a list of pairs.
use Rattle.std.proofs.Common.{ℕ, Bool, true, false, List, [], ◌∷◌, ◌++◌, ◌≡◌, refl, sym, ap, ◌∙◌, nat_eq}
use Rattle.std.specs.Prelude.{Option, Some, None, if◌then◌else◌}
use Rattle.std.proofs.lemmas.Bool.{eqb-true}
pub use Rattle.rt_lemmas.proofs.Numbers.{eq_same}
use Rattle.rt_model.specs.Lists.{at, put, without}

pub pick_true : {A : Type 0} {b : Bool} (x y : A) → b ≡ true → (if b then x else y) ≡ x
pick_true x y e = ap (λ (z : Bool). if z then x else y) e

pub pick_false : {A : Type 0} {b : Bool} (x y : A) → b ≡ false → (if b then x else y) ≡ y
pick_false x y e = ap (λ (z : Bool). if z then x else y) e

-- by what a test says
pub by_test : {P : Type 0} (b : Bool) → (b ≡ true → P) → (b ≡ false → P) → P
by_test true f g = f refl
by_test false f g = g refl

module _ {A : Type 0} where
  pub none_some : {P : Type 0} {o : Option A} {a : A} → o ≡ None → o ≡ Some a → P
  none_some p q = cc

  pub at_here : (m : ℕ) (a : A) (es : List (ℕ × A)) (n : ℕ) → nat_eq m n ≡ true → at ((m, a) ∷ es) n ≡ Some a
  at_here m a es n h = pick_true (Some a) (at es n) h

  pub at_there : (m : ℕ) (a : A) (es : List (ℕ × A)) (n : ℕ) → nat_eq m n ≡ false → at ((m, a) ∷ es) n ≡ at es n
  at_there m a es n h = pick_false (Some a) (at es n) h

  -- a value that replaces another one changes no other number
  pub at_put_other : (es : List (ℕ × A)) (n : ℕ) (a : A) (m : ℕ) → nat_eq n m ≡ false → at (put es n a) m ≡ at es m
  at_put_other [] n a m h = at_there n a [] m h
  at_put_other (e ∷ es) n a m h =
      by_test (nat_eq e.0 n)
      (
      λ q.
      let same : e.0 ≡ n = eqb-true e.0 n q in
      let other : nat_eq e.0 m ≡ false = ap (λ (k : ℕ). nat_eq k m) same ∙ h in
      ap (λ (xs : List (ℕ × A)). at xs m) (pick_true ((n, a) ∷ es) (e ∷ put es n a) q) ∙ at_there n a es m h ∙ sym (at_there e.0 e.1 es m other)
      )
      (
      λ q.
      ap (λ (xs : List (ℕ × A)). at xs m) (pick_false ((n, a) ∷ es) (e ∷ put es n a) q)
      ∙ by_test (nat_eq e.0 m)
      (λ r. at_here e.0 e.1 (put es n a) m r ∙ sym (at_here e.0 e.1 es m r))
      (λ r. at_there e.0 e.1 (put es n a) m r ∙ at_put_other es n a m h ∙ sym (at_there e.0 e.1 es m r))
      )

  pub at_put_here : (es : List (ℕ × A)) (n : ℕ) (a : A) (m : ℕ) → nat_eq n m ≡ true → at (put es n a) m ≡ Some a
  at_put_here [] n a m h = at_here n a [] m h
  at_put_here (e ∷ es) n a m h =
      by_test (nat_eq e.0 n)
      (λ q. ap (λ (xs : List (ℕ × A)). at xs m) (pick_true ((n, a) ∷ es) (e ∷ put es n a) q) ∙ at_here n a es m h)
      (
      λ q.
      let same : n ≡ m = eqb-true n m h in
      let other : nat_eq e.0 m ≡ false = ap (λ (k : ℕ). nat_eq e.0 k) (sym same) ∙ q in
      ap (λ (xs : List (ℕ × A)). at xs m) (pick_false ((n, a) ∷ es) (e ∷ put es n a) q) ∙ at_there e.0 e.1 (put es n a) m other ∙ at_put_here es n a m h
      )

  -- what isn't there isn't there after a removal
  pub at_without_none : (es : List (ℕ × A)) (n m : ℕ) → at es m ≡ None → at (without es n) m ≡ None
  at_without_none [] n m h = refl
  at_without_none (e ∷ es) n m h =
      by_test (nat_eq e.0 m)
      (λ r. none_some h (at_here e.0 e.1 es m r))
      (
      λ r.
      let rest : at es m ≡ None = sym (at_there e.0 e.1 es m r) ∙ h in
      by_test (nat_eq e.0 n)
      (λ q. ap (λ (xs : List (ℕ × A)). at xs m) (pick_true (without es n) (e ∷ without es n) q) ∙ at_without_none es n m rest)
      (λ q. ap (λ (xs : List (ℕ × A)). at xs m) (pick_false (without es n) (e ∷ without es n) q) ∙ at_there e.0 e.1 (without es n) m r ∙ at_without_none es n m rest)
      )

  pub at_without_here : (es : List (ℕ × A)) (n m : ℕ) → nat_eq n m ≡ true → at (without es n) m ≡ None
  at_without_here [] n m h = refl
  at_without_here (e ∷ es) n m h =
      by_test (nat_eq e.0 n)
      (λ q. ap (λ (xs : List (ℕ × A)). at xs m) (pick_true (without es n) (e ∷ without es n) q) ∙ at_without_here es n m h)
      (
      λ q.
      let same : n ≡ m = eqb-true n m h in
      let other : nat_eq e.0 m ≡ false = ap (λ (k : ℕ). nat_eq e.0 k) (sym same) ∙ q in
      ap (λ (xs : List (ℕ × A)). at xs m) (pick_false (without es n) (e ∷ without es n) q) ∙ at_there e.0 e.1 (without es n) m other ∙ at_without_here es n m h
      )

  pub at_without_other : (es : List (ℕ × A)) (n m : ℕ) → nat_eq n m ≡ false → at (without es n) m ≡ at es m
  at_without_other [] n m h = refl
  at_without_other (e ∷ es) n m h =
      by_test (nat_eq e.0 n)
      (
      λ q.
      let same : e.0 ≡ n = eqb-true e.0 n q in
      let other : nat_eq e.0 m ≡ false = ap (λ (k : ℕ). nat_eq k m) same ∙ h in
      ap (λ (xs : List (ℕ × A)). at xs m) (pick_true (without es n) (e ∷ without es n) q) ∙ at_without_other es n m h ∙ sym (at_there e.0 e.1 es m other)
      )
      (
      λ q.
      ap (λ (xs : List (ℕ × A)). at xs m) (pick_false (without es n) (e ∷ without es n) q)
      ∙ by_test (nat_eq e.0 m)
      (λ r. at_here e.0 e.1 (without es n) m r ∙ sym (at_here e.0 e.1 es m r))
      (λ r. at_there e.0 e.1 (without es n) m r ∙ at_without_other es n m h ∙ sym (at_there e.0 e.1 es m r))
      )

  pub at_append_none : (es : List (ℕ × A)) (n : ℕ) (a : A) (m : ℕ) → nat_eq n m ≡ false → at (es ++ (n, a) ∷ []) m ≡ at es m
  at_append_none [] n a m h = at_there n a [] m h
  at_append_none (e ∷ es) n a m h =
      by_test (nat_eq e.0 m)
      (λ r. at_here e.0 e.1 (es ++ (n, a) ∷ []) m r ∙ sym (at_here e.0 e.1 es m r))
      (λ r. at_there e.0 e.1 (es ++ (n, a) ∷ []) m r ∙ at_append_none es n a m h ∙ sym (at_there e.0 e.1 es m r))

  pub at_append_here : (es : List (ℕ × A)) (n : ℕ) (a : A) (m : ℕ) → nat_eq n m ≡ true → at es m ≡ None → at (es ++ (n, a) ∷ []) m ≡ Some a
  at_append_here [] n a m h q = at_here n a [] m h
  at_append_here (e ∷ es) n a m h q =
      by_test (nat_eq e.0 m)
      (λ r. none_some q (at_here e.0 e.1 es m r))
      (λ r. at_there e.0 e.1 (es ++ (n, a) ∷ []) m r ∙ at_append_here es n a m h (sym (at_there e.0 e.1 es m r) ∙ q))

  -- a value that replaces one that is there brings no other number in
  pub at_put_none : (es : List (ℕ × A)) (n : ℕ) (a b : A) (m : ℕ) → at es n ≡ Some b → at es m ≡ None → at (put es n a) m ≡ None
  at_put_none es n a b m there none =
      by_test (nat_eq n m)
      (λ q. none_some none (ap (λ (k : ℕ). at es k) (sym (eqb-true n m q)) ∙ there))
      (λ q. at_put_other es n a m q ∙ none)
