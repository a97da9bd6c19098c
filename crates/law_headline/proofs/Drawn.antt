-- Numbers that were drawn, and what holds of each number that edits carry.
use Rattle.std.proofs.Common.{ℕ, ◌+◌, ◌≤◌, ◌<◌, true, false, List, [], ◌∷◌, ◌≡◌, refl, arith, nat_eq, subst}
use Rattle.std.specs.List.{AllByRecursion}
use Rattle.std.proofs.lemmas.Bool.{eqb-true}
use Rattle.rt_lemmas.proofs.Bools.{not_either as or_none}
use Rattle.rt_model.specs.Lists.{has}
use Rattle.rt_model.proofs.Maps.{by_test, eq_same}
use Rattle.law_moves.specs.Settings.{counted}
use Rattle.law_headline.proofs.Carries.{listed}

-- numbers that were drawn before a bound: they begin at 1
abbrev pub Below : ℕ → List ℕ → Type 0
Below bound xs = AllByRecursion (λ (k : ℕ). (0 < k) × (k < bound)) xs

pub still_below : (xs : List ℕ) (bound more : ℕ) → bound ≤ more → Below bound xs → Below more xs
still_below [] bound more h low = tt
still_below (x ∷ xs) bound more h low = let less = low.0.1 in ((low.0.0, omega (arith, h, less)), still_below xs bound more h low.1)

pub less_than : (xs : List ℕ) (bound : ℕ) → Below bound xs → AllByRecursion (λ (k : ℕ). k < bound) xs
less_than [] bound low = tt
less_than (x ∷ xs) bound low = (low.0.1, less_than xs bound low.1)

-- a number without a property isn't among numbers that have it
pub never_among : (P : ℕ → Type 0) (n : ℕ) → (P n → ⊥) → (xs : List ℕ) → AllByRecursion P xs → has xs n ≡ false
never_among P n none [] all = refl
never_among P n none (x ∷ xs) all =
    or_none (nat_eq x n) (has xs n)
    (by_test (nat_eq x n) (λ e. let same : x ≡ n = eqb-true x n e in absurd (none (subst (λ (k : ℕ). P k) same all.0))) (λ e. e))
    (never_among P n none xs all.1)

-- what holds of each number that is in a list holds of all
pub all_listed : (P : ℕ → Type 0) (xs : List ℕ) → ((n : ℕ) → 0 < listed n xs → P n) → AllByRecursion P xs
all_listed P [] h = tt
all_listed P (x ∷ xs) h = (h x (here x), all_listed P xs (λ n more. h n (later n more)))
  where
    here : (n : ℕ) → 0 < counted (nat_eq n n) + listed n xs
    here n = by_test (nat_eq n n) (λ e. rw e (omega arith)) (λ e. let same : nat_eq n n ≡ true = eq_same n in cc)

    later : (n : ℕ) → 0 < listed n xs → 0 < counted (nat_eq x n) + listed n xs
    later n more = omega (arith, more)
