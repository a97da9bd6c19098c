-- Lists, one item after another.
use Rattle.std.proofs.Common.{ℕ, zero, suc, ◌-◌, ◌<◌, ◌≤◌, List, [], ◌∷◌, ◌≡◌, refl, ap, length, take, drop, arith}
use Rattle.std.specs.List.{slice_range}
use Rattle.std.proofs.lemmas.List.{length-drop, take_all}
pub use Rattle.rt_lemmas.proofs.Lists.{next_drop, append_nil as nil-right, take_next as take-more}

pub length-taken : {A : Type 0} (xs : List A) (i : ℕ) → i ≤ length xs → length (take i xs) ≡ i
length-taken xs zero low = refl
length-taken [] (suc i) low = absurd (let e : ⊥ = omega arith in e)
length-taken (x ∷ xs) (suc i) low = ap suc (length-taken xs i (omega arith))

-- what isn't at the end is before it
pub not_at_end : (i n : ℕ) → i ≤ n → (i ≡ n → ⊥) → i < n
not_at_end zero zero low apart = absurd (apart refl)
not_at_end zero (suc n) low apart = omega arith
not_at_end (suc i) zero low apart = absurd (let e : ⊥ = omega arith in e)
not_at_end (suc i) (suc n) low apart = let e : i < n = not_at_end i n (omega arith) (λ same. apart (ap suc same)) in omega arith

-- from a position to the end
pub range_to_end : {A : Type 0} (xs : List A) (i : ℕ) → slice_range xs i (length xs) ≡ drop i xs
range_to_end xs i = let e : length (drop i xs) ≡ length xs - i = length-drop i xs in take_all (length xs - i) (drop i xs) (omega (arith, e))
