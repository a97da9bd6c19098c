-- The count of failures never falls from call to call, and rises at a numbered one.
use Rattle.std.proofs.Common.{◌≡◌, ℕ, ◌+◌, ◌≤◌, ◌<◌, List, [], ◌∷◌, Bool, true, false, nat_le, nat_eq, if◌then◌else◌, refl, arith}
use Rattle.std.specs.List.{list_any}
use Rattle.std.proofs.lemmas.Bool.Decides.{nat_tests}
use Rattle.show_streams.specs.Failures.{failures}

one_later : (call made : ℕ) → (if nat_le call made then 1 else 0) ≤ (if nat_le call (made + 1) then 1 else 0)
one_later call made = grind (arith, nat_tests)

one_rises : (call made : ℕ) → nat_eq call (made + 1) ≡ true → (if nat_le call made then 1 else 0) < (if nat_le call (made + 1) then 1 else 0)
one_rises call made is = grind (arith, nat_tests)

pub failures_later : (calls : List ℕ) (made : ℕ) → failures calls made ≤ failures calls (made + 1)
failures_later [] made = omega arith
failures_later (call ∷ calls) made = omega (arith, one_later call made, failures_later calls made)

rise_at : (is : Bool) (call : ℕ) (calls : List ℕ) (made : ℕ) → nat_eq call (made + 1) ≡ is → list_any (λ y. nat_eq y (made + 1)) (call ∷ calls) ≡ true →
    (list_any (λ y. nat_eq y (made + 1)) calls ≡ true → failures calls made < failures calls (made + 1)) → failures (call ∷ calls) made < failures (call ∷ calls) (made + 1)
rise_at true call calls made is found rest = omega (arith, one_rises call made is, failures_later calls made)
rise_at false call calls made is found rest = omega (arith, one_later call made, rest (rw is at found))

pub failures_rise : (calls : List ℕ) (made : ℕ) → list_any (λ y. nat_eq y (made + 1)) calls ≡ true → failures calls made < failures calls (made + 1)
failures_rise [] made found = absurd (cc)
failures_rise (call ∷ calls) made found = rise_at (nat_eq call (made + 1)) call calls made refl found (failures_rise calls made)
