-- What numbers were entered with, as others are entered and leave.
use Rattle.std.proofs.Common.{◌≡◌, ◌++◌, ℕ, true, false, List, [], ◌∷◌, ap, sym, ◌∙◌, nat_eq}
use Rattle.std.proofs.lemmas.Bool.{eqb-true}
use Rattle.rt_model.specs.Lists.{has, or_else, without}
use Rattle.rt_model.proofs.Maps.{at_append_none, at_without_other, by_test}
use Rattle.rt_model.proofs.Members.{clash}
use Rattle.run_owed.specs.Lists.{held}

-- a number that is in a list is another one than one that isn't
pub apart : (ns : List ℕ) (n m : ℕ) → has ns n ≡ false → has ns m ≡ true → nat_eq n m ≡ false
apart ns n m none there = by_test (nat_eq n m) (λ q. clash (ap (λ k. has ns k) (eqb-true n m q) ∙ there) none) (λ q. q)

pub held_more : (es : List (ℕ × ℕ)) (n v m : ℕ) → nat_eq n m ≡ false → held es m ≡ held (es ++ (n, v) ∷ []) m
held_more es n v m other = ap (λ o. or_else 0 o) (sym (at_append_none es n v m other))

pub held_without : (es : List (ℕ × ℕ)) (n m : ℕ) → nat_eq n m ≡ false → held es m ≡ held (without es n) m
held_without es n m other = ap (λ o. or_else 0 o) (sym (at_without_other es n m other))
