-- Taking items out of a list one by one, until none is left that passes a test.
use Rattle.std.proofs.Common.{◌≡◌, ℕ, zero, suc, ◌+◌, ◌<◌, Bool, true, false, List, [], ◌∷◌, length, get_or, refl, ap, sym, ◌∙◌, arith}
use Rattle.std.specs.Prelude.{not, nat_eq, remove}
use Rattle.std.specs.List.{list_any}
use Rattle.std.proofs.lemmas.Grind.{common_steps}
use Rattle.rt_model.specs.Lists.{has, kept_by, drop_number}
use Rattle.rt_values.specs.declared.names.ScopeId.{ScopeId}
use Rattle.run_state.specs.Names.{scope_numbers}

-- one that would go anyway goes first
number_first : (xs : List ℕ) (n i : ℕ) → i < length xs → get_or xs i 0 ≡ n → drop_number (remove xs i) n ≡ drop_number xs n
number_first [] n i within own = absurd (omega arith)
number_first (x ∷ xs) n zero within own = grind (arith, common_steps)
number_first (x ∷ xs) n (suc i) within own = grind (arith, common_steps, number_first xs n i)

pub number_less : (xs seen : List ℕ) (n i : ℕ) → seen ≡ xs → i < length seen → get_or seen i 0 ≡ n → drop_number (remove xs i) n ≡ drop_number xs n
number_less xs seen n i slice within own =
    ap (λ ys. drop_number (remove ys i) n) (sym slice) ∙ number_first seen n i within own ∙ ap (λ ys. drop_number ys n) slice

-- none is left
pub number_none : (xs : List ℕ) (n : ℕ) → has xs n ≡ false → drop_number xs n ≡ xs
number_none [] n none = refl
number_none (x ∷ xs) n none = grind (arith, common_steps, number_none xs n)

-- scopes by their numbers
scope_first : (xs : List ScopeId) (n i : ℕ) (d : ScopeId) → i < length xs → nat_eq (get_or xs i d).0 n ≡ true
    → drop_number (scope_numbers (remove xs i)) n ≡ drop_number (scope_numbers xs) n
scope_first [] n i d within own = absurd (omega arith)
scope_first (x ∷ xs) n zero d within own = grind (arith, common_steps)
scope_first (x ∷ xs) n (suc i) d within own = grind (arith, common_steps, scope_first xs n i d)

pub scope_less : (xs seen : List ScopeId) (n i : ℕ) (d : ScopeId) → seen ≡ xs → i < length seen → nat_eq (get_or seen i d).0 n ≡ true
    → drop_number (scope_numbers (remove xs i)) n ≡ drop_number (scope_numbers xs) n
scope_less xs seen n i d slice within own =
    ap (λ ys. drop_number (scope_numbers (remove ys i)) n) (sym slice) ∙ scope_first seen n i d within own ∙ ap (λ ys. drop_number (scope_numbers ys) n) slice

pub scope_none : (xs : List ScopeId) (n : ℕ) → list_any (λ own. nat_eq own.0 n) xs ≡ false → drop_number (scope_numbers xs) n ≡ scope_numbers xs
scope_none [] n none = refl
scope_none (x ∷ xs) n none = grind (arith, common_steps, scope_none xs n)

-- whether one is among them
pub scope_gone : (xs : List ScopeId) (n : ℕ) → list_any (λ own. nat_eq own.0 n) xs ≡ false → has (scope_numbers xs) n ≡ false
scope_gone [] n none = refl
scope_gone (x ∷ xs) n none = grind (arith, common_steps, scope_gone xs n)

pub scope_there : (xs : List ScopeId) (n i : ℕ) (d : ScopeId) → i < length xs → nat_eq (get_or xs i d).0 n ≡ true → has (scope_numbers xs) n ≡ true
scope_there [] n i d within own = absurd (omega arith)
scope_there (x ∷ xs) n zero d within own = grind (arith, common_steps)
scope_there (x ∷ xs) n (suc i) d within own = grind (arith, common_steps, scope_there xs n i d)

module _ {B : Type 0} (test : B → Bool) where
  pub kept_all : (xs : List B) → list_any test xs ≡ false → kept_by (λ x. not (test x)) xs ≡ xs
  kept_all [] none = refl
  kept_all (x ∷ xs) none = grind (arith, common_steps, kept_all xs)

-- the same of a list as it is
kept_front : {A : Type 0} (test : A → Bool) (xs : List A) (i : ℕ) (d : A) → i < length xs → test (get_or xs i d) ≡ true → kept_by (λ x. not (test x)) (remove xs i) ≡ kept_by (λ x. not (test x)) xs
kept_front test [] i d within own = absurd (omega arith)
kept_front test (x ∷ xs) zero d within own = grind (arith, common_steps)
kept_front test (x ∷ xs) (suc i) d within own = grind (arith, common_steps, kept_front test xs i d)

pub kept_fewer : {A : Type 0} (test : A → Bool) (xs seen : List A) (i : ℕ) (d : A) → seen ≡ xs → i < length seen → test (get_or seen i d) ≡ true
    → kept_by (λ x. not (test x)) (remove xs i) ≡ kept_by (λ x. not (test x)) xs
kept_fewer test xs seen i d slice within own =
    ap (λ ys. kept_by (λ x. not (test x)) (remove ys i)) (sym slice) ∙ kept_front test seen i d within own ∙ ap (kept_by (λ x. not (test x))) slice
