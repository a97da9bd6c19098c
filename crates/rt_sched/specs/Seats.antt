-- Members' seats: rows of rising numbers, of which some are empty, and the seats by number that they stand for.
use Rattle.std.specs.Prelude.{◌≡◌, ℕ, ◌≤◌, ◌+◌, ⊤, ◌==◌, List, [], ◌∷◌, Option, None, Some, map, if◌then◌else◌}
use Rattle.std.specs.Ordering.{nat_cmp, is_eq}
use Rattle.std.specs.Map.{lookup}
use Rattle.rt_sched.specs.declared.seating.Seat.{Seat}

-- a seat in front, where a row has one
abbrev pub and_taken : ℕ → Option Seat → List (ℕ × Seat) → List (ℕ × Seat)
and_taken n None es = es
and_taken n (Some s) es = (n, s) ∷ es

-- the seats in rows
abbrev pub taken : List (ℕ × Option Seat) → List (ℕ × Seat)
taken [] = []
taken (r ∷ rs) = and_taken r.0 r.1 (taken rs)

-- each number is at least this, and below those behind it
abbrev pub Rises : ℕ → List (ℕ × Option Seat) → Type 0
Rises low [] = ⊤
Rises low (r ∷ rs) = (low ≤ r.0) × Rises (r.0 + 1) rs

-- the seat of a number, where it is a member's
abbrev pub seat_of : List (ℕ × Seat) → ℕ → Option Seat
seat_of es n = lookup (λ k. is_eq (nat_cmp n k)) es

-- the members' numbers
abbrev pub members_of : List (ℕ × Seat) → List ℕ
members_of es = map (λ e. e.0) es

-- one number has the seat s, if any, and each other has the one that it had
abbrev pub IsSeated : ℕ → Option Seat → List (ℕ × Seat) → List (ℕ × Seat) → Type 0
IsSeated n s old new = (q : ℕ) → seat_of new q ≡ (if q == n then s else seat_of old q)
