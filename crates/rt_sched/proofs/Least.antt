-- The first in line has the least order.
use Rattle.std.proofs.Common.{◌≡◌, ℕ, true, false, List, [], ◌∷◌, refl, ap, ⊎_elim, arith, Option, Some}
use Rattle.std.proofs.lemmas.Bool.{or_cases, both_ways}
use Rattle.std.proofs.lemmas.Bool.Decides.{nat_tests}
use Rattle.rt_sched.specs.Order.{order_before, same_order}
use Rattle.rt_sched.specs.Places.{place_before, NoneBefore, IsInOrder, first_place}
use Rattle.rt_sched.specs.Lines.{orders_of, who_waits}
use Rattle.rt_sched.specs.Queues.{has_order}
use Rattle.rt_sched.specs.Batches.{batch_orders}
use Rattle.rt_sched.specs.Due.{NoneEarlier}
use Rattle.rt_sched.specs.declared.order.ScopeOrder.{ScopeOrder}
use Rattle.rt_sched.specs.declared.place.Place.{Place}
use Rattle.rt_sched.proofs.BatchLemmas.{by}

-- ---- orders
-- an order that is that of p isn't earlier than p
same_not_earlier : (q p : ScopeOrder) → same_order q p ≡ true → order_before q p ≡ false
same_not_earlier q p = grind (arith, nat_tests)

-- the order of a place that isn't before p isn't earlier than that of p
later_place : (q : ScopeOrder) (x p : Place) → same_order q x.order ≡ true → place_before x p ≡ false → order_before q p.order ≡ false
later_place q x p = grind (arith, nat_tests)

-- ---- the first in line
none_earlier : (p : Place) (ps : List Place) → NoneBefore p ps → NoneEarlier p.order (orders_of (who_waits ps))
none_earlier p [] n q h = absurd (both_ways false refl h)
none_earlier p (x ∷ ps) n q h =
    ⊎_elim (λ (i : same_order q x.order ≡ true). later_place q x p i n.0) (λ (l : has_order q (orders_of (who_waits ps)) ≡ true). none_earlier p ps n.1 q l)
    (or_cases (same_order q x.order) (has_order q (orders_of (who_waits ps))) h)

pub least_head : (p : Place) (ps : List Place) → IsInOrder (p ∷ ps) → NoneEarlier p.order (orders_of (who_waits (p ∷ ps)))
least_head p ps s q h =
    ⊎_elim (λ (i : same_order q p.order ≡ true). same_not_earlier q p.order i) (λ (l : has_order q (orders_of (who_waits ps)) ≡ true). none_earlier p ps s.0 q l)
    (or_cases (same_order q p.order) (has_order q (orders_of (who_waits ps))) h)

pub least_first : (p : Place) (ps : List Place) → IsInOrder ps → first_place ps ≡ Some p → NoneEarlier p.order (orders_of (who_waits ps))
least_first p [] s h = absurd cc
least_first p (x ∷ ps) s h = let is : x ≡ p = cc in rw (← is) (least_head x ps s)

-- ---- batches
pub batch_orders_by : {E : Type 0} (f : ℕ → Option (List E)) (ws : List (ScopeOrder × ℕ)) → batch_orders (by f ws) ≡ orders_of ws
batch_orders_by f [] = refl
batch_orders_by f (w ∷ ws) = ap (λ v. w.0 ∷ v) (batch_orders_by f ws)
