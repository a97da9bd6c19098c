-- Rows whose numbers rise.
use Rattle.std.proofs.Common.{ℕ, suc, ◌<◌, List, [], ◌∷◌, length, get_or, arith}
use Rattle.std.specs.Prelude.{⊤}
use Rattle.run_records.specs.Kept.{each}
use Rattle.run_table.specs.Found.{Ascends}

-- all numbers of a table are above one
abbrev pub Above : {A : Type 0} → ℕ → List (ℕ × A) → Type 0
Above n [] = ⊤
Above n (e ∷ es) = (n < e.0) × Above n es

-- each is below those after it
abbrev pub Rises : {A : Type 0} → List (ℕ × A) → Type 0
Rises [] = ⊤
Rises (e ∷ es) = Above e.0 es × Rises es

module _ {A : Type 0} where
  all_above : (n : ℕ) (e : ℕ × A) (es : List (ℕ × A)) → ((j : ℕ) → j < length es → n < (get_or es j e).0) → Above n es
  all_above n e [] up = tt
  all_above n e (f ∷ fs) up = (up 0 (omega arith), all_above n e fs (λ j low. up (suc j) (omega (arith, low))))

  pub rises : (es : List (ℕ × A)) → Ascends es → Rises es
  rises [] up = tt
  rises (e ∷ es) up = (
    all_above e.0 e es (λ j low. up 0 (suc j) e (omega arith) (omega (arith, low))),
    rises es (λ i j row low high. up (suc i) (suc j) row (omega (arith, low)) (omega (arith, high))),
  )

module _ {A B : Type 0} (f : A → B) where
  above_each : (n : ℕ) (es : List (ℕ × A)) → Above n es → Above n (each f es)
  above_each n [] up = tt
  above_each n (e ∷ es) up = (up.0, above_each n es up.1)

  pub rises_each : (es : List (ℕ × A)) → Rises es → Rises (each f es)
  rises_each [] up = tt
  rises_each (e ∷ es) up = (above_each e.0 es up.0, rises_each es up.1)
