-- How the count of failures rises with the calls made.
use Rattle.std.proofs.Common.{◌≡◌, ℕ, ◌+◌, ◌<◌, ◌≤◌, List, [], ◌∷◌, true, cond, ⊎_elim, nat_eq, nat_le, arith}
use Rattle.std.proofs.lemmas.Bool.Decides.{nat_tests}
use Rattle.std.proofs.lemmas.Bool.{or_cases}
use Rattle.rt_edits.specs.Sinks.{failures, fails_at}

one_later : (call made : ℕ) → cond (nat_le call made) 1 0 ≤ cond (nat_le call (made + 1)) 1 0
one_later call made = grind (arith, nat_tests)

one_now : (call made : ℕ) → nat_eq call (made + 1) ≡ true → cond (nat_le call made) 1 0 < cond (nat_le call (made + 1)) 1 0
one_now call made h = grind (arith, nat_tests)

-- the count never falls
pub rises : (calls : List ℕ) (made : ℕ) → failures calls made ≤ failures calls (made + 1)
rises [] made = omega arith
rises (call ∷ calls) made = omega (arith, one_later call made, rises calls made)

-- it rises at a numbered call
pub rises_at : (calls : List ℕ) (made : ℕ) → fails_at calls (made + 1) ≡ true → failures calls made < failures calls (made + 1)
rises_at [] made h = cc
rises_at (call ∷ calls) made h =
    ⊎_elim (λ (here : nat_eq call (made + 1) ≡ true). omega (arith, one_now call made here, rises calls made)) (λ (later : fails_at calls (made + 1) ≡ true). omega (arith, one_later call made, rises_at calls made later)) (or_cases _ _ h)

pub ruleset steps = (rises, rises_at)
