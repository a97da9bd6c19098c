-- Where members stand, when one seat changes.
use Rattle.std.proofs.Common.{◌≡◌, ℕ, Bool, true, false, cond, not, List, eqb, refl, ap, ◌∙◌, sym, ⊎_elim, Option, Some, None, IfSome}
use Rattle.std.proofs.lemmas.Bool.{eqb-true, cases_Bool, both_ways}
use Rattle.std.proofs.lemmas.Map.Made.{is_some-lookup}
use Rattle.std.specs.Option.{is_some}
use Rattle.std.specs.Ordering.{nat_cmp, is_eq}
use Rattle.rt_lemmas.proofs.Bools.{cond_or}
use Rattle.rt_sched.specs.Seats.{seat_of, members_of, IsSeated}
use Rattle.rt_sched.specs.Lines.{has_number, Joins, Leaves, place_of, standing}
use Rattle.rt_sched.specs.declared.place.Place.{Place}
use Rattle.rt_sched.specs.declared.seating.Seat.{Seat}

-- a member has a seat
pub is_member : (n : ℕ) (m : List (ℕ × Seat)) → has_number n (members_of m) ≡ is_some (seat_of m n)
is_member n m = sym (is_some-lookup (λ k. is_eq (nat_cmp n k)) m)

place_of_cond : (b : Bool) (w s : Option Seat) → place_of (cond b w s) ≡ cond b (place_of w) (place_of s)
place_of_cond true w s = refl
place_of_cond false w s = refl

-- where all stand when the seat of n becomes w
pub stood : (m m' : List (ℕ × Seat)) (n : ℕ) (w : Option Seat) → IsSeated n w m m' → (q : ℕ) → standing m' q ≡ cond (eqb q n) (place_of w) (standing m q)
stood m m' n w e q = ap place_of (e q) ∙ place_of_cond (eqb q n) w (seat_of m q)

-- nobody moves when a seat without a place becomes another without a place
pub stood_same : (m m' : List (ℕ × Seat)) (n : ℕ) (w : Option Seat) → IsSeated n w m m' → place_of w ≡ standing m n → (q : ℕ) → standing m' q ≡ standing m q
stood_same m m' n w e none q =
    stood m m' n w e q
    ∙ ⊎_elim (λ (t : eqb q n ≡ true). let same = eqb-true q n t in rw t (none ∙ ap (standing m) (sym same))) (λ (f : eqb q n ≡ false). rw f refl) (cases_Bool (eqb q n))

is_some_cond : (b : Bool) (w s : Option Seat) → is_some (cond b w s) ≡ cond b (is_some w) (is_some s)
is_some_cond true w s = refl
is_some_cond false w s = refl

-- who is a member when the seat of n becomes w
members_now : (m m' : List (ℕ × Seat)) (n : ℕ) (w : Option Seat) → IsSeated n w m m' → (q : ℕ) → has_number q (members_of m') ≡ cond (eqb q n) (is_some w) (has_number q (members_of m))
members_now m m' n w e q =
    is_member q m' ∙ ap is_some (e q) ∙ is_some_cond (eqb q n) w (seat_of m q) ∙ ap (λ b. cond (eqb q n) (is_some w) b) (sym (is_member q m))

pub joins : (m m' : List (ℕ × Seat)) (n : ℕ) (s : Seat) → IsSeated n (Some s) m m' → Joins n (members_of m) (members_of m')
joins m m' n s e q = members_now m m' n (Some s) e q ∙ cond_or (eqb q n) (has_number q (members_of m))

pub leaves : (m m' : List (ℕ × Seat)) (n : ℕ) → IsSeated n None m m' → Leaves n (members_of m) (members_of m')
leaves m m' n e q = members_now m m' n None e q

-- who has joined joins nobody new
pub joined : (n : ℕ) (ms : List ℕ) → has_number n ms ≡ true → Joins n ms ms
joined n ms h q =
    ⊎_elim (λ (t : eqb q n ≡ true). rw t (ap (λ m. has_number m ms) (eqb-true q n t) ∙ h)) (λ (f : eqb q n ≡ false). rw f refl) (cases_Bool (eqb q n))

pub vacant : (o : Option Seat) → is_some o ≡ false → None ≡ place_of o
vacant None e = refl
vacant (Some s) e = absurd (both_ways true e refl)

-- a member whose seat isn't found is none
pub no_seat : (n : ℕ) (m : List (ℕ × Seat)) → has_number n (members_of m) ≡ true → seat_of m n ≡ None → ⊥
no_seat n m has none = both_ways _ (is_member n m ∙ ap is_some none) has

pub at_home : (o : Option Place) → true ≡ not (is_some o) → o ≡ None
at_home None e = refl
at_home (Some x) e = absurd (both_ways true e refl)

pub in_line : (o : Option Place) → false ≡ not (is_some o) → (x : Place) × (o ≡ Some x)
in_line None e = absurd (both_ways true (sym e) refl)
in_line (Some x) e = (x, refl)

pub is_some_place : (o : Option Seat) (p : Place) → place_of o ≡ Some p → is_some o ≡ true
is_some_place None p e = absurd cc
is_some_place (Some s) p e = refl

-- who stands at a place is a member
pub seat_of_place : (m : List (ℕ × Seat)) (p : Place) → standing m p.number ≡ Some p → has_number p.number (members_of m) ≡ true
seat_of_place m p e = is_member p.number m ∙ is_some_place (seat_of m p.number) p e

-- the seat of a member is changed for another
pub exchanged : (m m' : List (ℕ × Seat)) (n : ℕ) (s : Seat) (former : Option Seat) → former ≡ seat_of m n → IfSome former (λ _. IsSeated n (Some s) m m')
    → has_number n (members_of m) ≡ true → IsSeated n (Some s) m m'
exchanged m m' n s None is now has = absurd (no_seat n m has (sym is))
exchanged m m' n s (Some t) is now has = now
