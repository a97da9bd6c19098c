-- Two lists that are short.
use Rattle.std.proofs.Common.{ℕ, ◌<◌, ◌≤◌, zero, suc, List, [], ◌∷◌, length, get_or, arith}

pub both_short : {A : Type 0} (first second : List A) → length first ≤ 1000000 → length second ≤ 1000000
    → (k : ℕ) (d : List A) → k < length (first ∷ second ∷ []) → length (get_or (first ∷ second ∷ []) k d) ≤ 1000000
both_short first second one other zero d lt = one
both_short first second one other (suc zero) d lt = other
both_short first second one other (suc (suc k)) d lt = absurd (omega (arith, lt))
