-- What is kept of scopes, one more at a time.
use Rattle.std.proofs.Common.{ℕ, Bool, true, false, List, [], ◌∷◌, ◌++◌, ◌≡◌, refl, ap, nat_eq}
use Rattle.std.specs.Prelude.{Option, Some, None, is_some, if◌then◌else◌}
use Rattle.rt_model.proofs.Maps.{pick_true, eq_same}
use Rattle.rt_model.specs.Lists.{at}

module _ {A : Type 0} where
  pub some_there : (xs : List (ℕ × A)) (s : ℕ) (x : A) → is_some (at (xs ++ (s, x) ∷ []) s) ≡ true
  some_there [] s x = ap (λ (o : Option A). is_some o) (pick_true (Some x) None (eq_same s))
  some_there (e ∷ xs) s x = by (nat_eq e.0 s) (some_there xs s x)
    where
      by : (b : Bool) → is_some (at (xs ++ (s, x) ∷ []) s) ≡ true → is_some (if b then Some e.1 else at (xs ++ (s, x) ∷ []) s) ≡ true
      by true h = refl
      by false h = h

  pub some_still : (xs : List (ℕ × A)) (s : ℕ) (x : A) (o : ℕ) → is_some (at xs o) ≡ true → is_some (at (xs ++ (s, x) ∷ []) o) ≡ true
  some_still [] s x o h = cc
  some_still (e ∷ xs) s x o h = by (nat_eq e.0 o) (some_still xs s x o) h
    where
      by : (b : Bool) → (is_some (at xs o) ≡ true → is_some (at (xs ++ (s, x) ∷ []) o) ≡ true) → is_some (if b then Some e.1 else at xs o) ≡ true → is_some (if b then Some e.1 else at (xs ++ (s, x) ∷ []) o) ≡ true
      by true f h = refl
      by false f h = f h

  pub none_there : (o : Option A) → is_some o ≡ false → o ≡ None
  none_there None h = refl
  none_there (Some x) h = cc
