-- A line: members by number, and those that wait in it, by order and in one order by arrival.
use Rattle.std.specs.Prelude.{◌≡◌, ℕ, ◌<◌, Bool, true, false, ◌||◌, ◌==◌, not, List, [], ◌∷◌, Option, None, Some, map, if◌then◌else◌}
use Rattle.std.specs.List.{list_any, filter}
use Rattle.std.specs.Ordering.{nat_cmp, is_eq}
use Rattle.rt_sched.specs.Order.{order_before, same_order}
use Rattle.rt_sched.specs.Places.{IsInOrder, has_place}
use Rattle.rt_sched.specs.Seats.{seat_of}
use Rattle.rt_sched.specs.declared.order.ScopeOrder.{ScopeOrder}
use Rattle.rt_sched.specs.declared.place.Place.{Place}
use Rattle.rt_sched.specs.declared.seating.Seat.{Seat}
use Rattle.rt_sched.specs.declared.seating.Seat.TheVariants.{Home, InLine}

-- the numbers of the members, and who waits, first to last
pub record Row : Type 0 where
  pub members : List ℕ
  pub waiting : List (ScopeOrder × ℕ)

-- whether a number is among these
abbrev pub has_number : ℕ → List ℕ → Bool
has_number n ms = list_any (λ m. is_eq (nat_cmp n m)) ms

-- one number more is among the new ones than among the old
abbrev pub Joins : ℕ → List ℕ → List ℕ → Type 0
Joins n old new = (q : ℕ) → has_number q new ≡ (q == n || has_number q old)

-- one number isn't among the new ones, and each other is where it is among the old
abbrev pub Leaves : ℕ → List ℕ → List ℕ → Type 0
Leaves n old new = (q : ℕ) → has_number q new ≡ (if q == n then false else has_number q old)

-- whether a number waits
abbrev pub waits : ℕ → List (ScopeOrder × ℕ) → Bool
waits n [] = false
waits n (e ∷ es) = n == e.1 || waits n es

-- one more, the last of its order
abbrev pub with_last : ScopeOrder → ℕ → List (ScopeOrder × ℕ) → List (ScopeOrder × ℕ)
with_last o n [] = (o, n) ∷ []
with_last o n (e ∷ es) = if order_before o e.0 then (o, n) ∷ e ∷ es else e ∷ with_last o n es

-- one more, the last of its order, unless it waits
abbrev pub with_waiting : ScopeOrder → ℕ → List (ScopeOrder × ℕ) → List (ScopeOrder × ℕ)
with_waiting o n es = if waits n es then es else with_last o n es

-- those that wait, without a number
abbrev pub without_waiting : ℕ → List (ScopeOrder × ℕ) → List (ScopeOrder × ℕ)
without_waiting n es = filter (λ e. not (n == e.1)) es

-- the order under which a number waits, if it does
abbrev pub order_in : ℕ → List (ScopeOrder × ℕ) → Option ScopeOrder
order_in n [] = None
order_in n (e ∷ es) = if n == e.1 then Some e.0 else order_in n es

-- the first number that waits under an order
abbrev pub first_under : ScopeOrder → List (ScopeOrder × ℕ) → Option ℕ
first_under o [] = None
first_under o (e ∷ es) = if same_order o e.0 then Some e.1 else first_under o es

-- the order of the first that waits, if any does
abbrev pub first_order : List (ScopeOrder × ℕ) → Option ScopeOrder
first_order [] = None
first_order (e ∷ es) = Some e.0

-- the first that waits, with its order, if any does
abbrev pub first_in : List (ScopeOrder × ℕ) → Option (ScopeOrder × ℕ)
first_in [] = None
first_in (e ∷ es) = Some e

-- those that wait behind a number, none where it doesn't wait
abbrev pub behind : ℕ → List (ScopeOrder × ℕ) → List (ScopeOrder × ℕ)
behind n [] = []
behind n (e ∷ es) = if n == e.1 then es else behind n es

-- the orders of those that wait
abbrev pub orders_of : List (ScopeOrder × ℕ) → List ScopeOrder
orders_of es = map (λ e. e.0) es

-- who stands at these places
abbrev pub who_waits : List Place → List (ScopeOrder × ℕ)
who_waits ps = map (λ p. (p.order, p.number)) ps

-- the place that a seat names, where its member stands in line
abbrev pub place_of : Option Seat → Option Place
place_of None = None
place_of (Some (Home node)) = None
place_of (Some (InLine place)) = Some place

-- each arrival is below n
abbrev pub AllArrivedBelow : ℕ → List Place → Type 0
AllArrivedBelow n [] = Unit {0}
AllArrivedBelow n (p ∷ ps) = (p.arrival < n) × AllArrivedBelow n ps

-- no number stands at two places
abbrev pub AllOnce : List Place → Type 0
AllOnce [] = Unit {0}
AllOnce (p ∷ ps) = (waits p.number (who_waits ps) ≡ false) × AllOnce ps

-- the place where a number stands, by the members' seats
abbrev pub standing : List (ℕ × Seat) → ℕ → Option Place
standing seats n = place_of (seat_of seats n)

-- one number stands where s says, and each other where it stood
abbrev pub StandsAt : ℕ → Option Place → (ℕ → Option Place) → (ℕ → Option Place) → Type 0
StandsAt n s old new = (q : ℕ) → new q ≡ (if q == n then s else old q)

-- the places are in order and below the next arrival, each the one where its member's seat says that it stands
pub record IsLine (stand : ℕ → Option Place) (places : List Place) (arrivals : ℕ) : Type 0 where
  pub in_order : IsInOrder places
  pub below : AllArrivedBelow arrivals places
  pub once : AllOnce places
  pub stands : (n : ℕ) (p : Place) → stand n ≡ Some p → (has_place p places ≡ true) × (p.number ≡ n)
  pub seated : (p : Place) → has_place p places ≡ true → stand p.number ≡ Some p
