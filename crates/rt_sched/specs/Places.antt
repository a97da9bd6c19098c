-- Places in a line: by order, in one order by arrival, and then by number.
use Rattle.std.specs.Prelude.{◌≡◌, Bool, false, ◌||◌, ◌&&◌, ◌==◌, nat_lt, List, [], ◌∷◌, Option, None, Some, if◌then◌else◌}
use Rattle.rt_sched.specs.Order.{order_before, same_order}
use Rattle.rt_sched.specs.declared.order.ScopeOrder.{ScopeOrder}
use Rattle.rt_sched.specs.declared.place.Place.{Place}

-- whether the place p comes before the place q
abbrev pub place_before : Place → Place → Bool
place_before p q = order_before p.order q.order
    || (same_order p.order q.order && (nat_lt p.arrival q.arrival || (p.arrival == q.arrival && nat_lt p.number q.number)))

-- whether p and q are one place
abbrev pub same_place : Place → Place → Bool
same_place p q = same_order p.order q.order && p.arrival == q.arrival && p.number == q.number

-- none of these places comes before p
abbrev pub NoneBefore : Place → List Place → Type 0
NoneBefore p [] = Unit {0}
NoneBefore p (q ∷ qs) = (place_before q p ≡ false) × NoneBefore p qs

-- no place comes before an earlier one of the list
abbrev pub IsInOrder : List Place → Type 0
IsInOrder [] = Unit {0}
IsInOrder (p ∷ ps) = NoneBefore p ps × IsInOrder ps

-- one place more, in its order
abbrev pub with_place : Place → List Place → List Place
with_place p [] = p ∷ []
with_place p (q ∷ qs) = if place_before p q then p ∷ q ∷ qs else q ∷ with_place p qs

-- whether a place is among these
abbrev pub has_place : Place → List Place → Bool
has_place p [] = false
has_place p (q ∷ qs) = same_place p q || has_place p qs

-- the places without the first that is p
abbrev pub without_place : Place → List Place → List Place
without_place p [] = []
without_place p (q ∷ qs) = if same_place p q then qs else q ∷ without_place p qs

-- the first place, if there is one
abbrev pub first_place : List Place → Option Place
first_place [] = None
first_place (p ∷ ps) = Some p

-- the first place under an order
abbrev pub first_place_under : ScopeOrder → List Place → Option Place
first_place_under o [] = None
first_place_under o (p ∷ ps) = if same_order o p.order then Some p else first_place_under o ps

-- the places from the first on that p comes before
abbrev pub after_place : Place → List Place → List Place
after_place p [] = []
after_place p (q ∷ qs) = if place_before p q then q ∷ qs else after_place p qs
