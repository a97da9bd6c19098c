-- The order of places is total.
use Rattle.std.proofs.Common.{◌≡◌, ℕ, true, false, refl, ap, sym, ◌∙◌, arith}
use Rattle.std.proofs.lemmas.Grind.{common_steps}
use Rattle.std.proofs.lemmas.Bool.Decides.{nat_tests}
use Rattle.std.proofs.lemmas.Bool.{false≢true}
use Rattle.rt_values.specs.declared.names.ScopeId.{ScopeId}
use Rattle.rt_sched.specs.Order.{same_order}
use Rattle.rt_sched.specs.Places.{place_before, same_place}
use Rattle.rt_sched.specs.declared.order.ScopeOrder.{ScopeOrder}
use Rattle.rt_sched.specs.declared.place.Place.{Place}

-- what isn't after y, where y isn't after z, isn't after z
pub not_before_trans : (x y z : Place) → place_before z y ≡ false → place_before y x ≡ false → place_before z x ≡ false
not_before_trans x y z = grind (arith, common_steps)

-- what is before y isn't after z, where y isn't after z
pub before_not_before : (x y z : Place) → place_before x y ≡ true → place_before z y ≡ false → place_before z x ≡ false
before_not_before x y z = grind (arith, common_steps)

-- what is before a place is another
pub before_other : (x y : Place) → place_before x y ≡ true → same_place x y ≡ false
before_other x y = grind (arith, common_steps)

-- of two other places one is before
pub other_before : (x y : Place) → same_place x y ≡ false → place_before x y ≡ false → place_before y x ≡ true
other_before x y = grind (arith, common_steps)

-- nothing comes before itself
pub not_before_itself : (x : Place) → place_before x x ≡ false
not_before_itself x = grind (arith, common_steps)

-- orders with equal parts are one
pub order_by_parts : (x y : ScopeOrder) → x.height ≡ y.height → x.id.0 ≡ y.id.0 → x ≡ y
order_by_parts x y h i = let j : x.id ≡ y.id = ap (λ (n : ℕ). record { 0 = n }) i in let P : ℕ → ScopeId → ScopeOrder = λ m n. record { height = m; id = n } in ap (λ m. P m x.id) h ∙ ap (λ n. P y.height n) j

-- places with equal parts are one
place_by_parts : (x y : Place) → x.order ≡ y.order → x.arrival ≡ y.arrival → x.number ≡ y.number → x ≡ y
place_by_parts x y o a n =
    let P : ScopeOrder → ℕ → ℕ → Place = λ p q r. record { order = p; arrival = q; number = r } in
    ap (λ p. P p x.arrival x.number) o ∙ ap (λ q. P y.order q x.number) a ∙ ap (λ r. P y.order y.arrival r) n

pub same_order_is : (x y : ScopeOrder) → same_order x y ≡ true → x ≡ y
same_order_is x y e =
    let h : x.height ≡ y.height = grind (arith, nat_tests) in
    let i : x.id.0 ≡ y.id.0 = grind (arith, nat_tests) in
    order_by_parts x y h i

pub same_place_is : (x y : Place) → same_place x y ≡ true → x ≡ y
same_place_is x y e =
    let o : same_order x.order y.order ≡ true = grind (arith, nat_tests) in
    let a : x.arrival ≡ y.arrival = grind (arith, nat_tests) in
    let n : x.number ≡ y.number = grind (arith, nat_tests) in
    place_by_parts x y (same_order_is x.order y.order o) a n

pub same_place_itself : (x : Place) → same_place x x ≡ true
same_place_itself x = grind (arith, nat_tests)

-- two places of which neither is before the other are one
pub neither_before : (x y : Place) → place_before x y ≡ false → place_before y x ≡ false → x ≡ y
neither_before x y a b =
    (elim (same_place x y) as (λ s. same_place x y ≡ s → x ≡ y) [
      | true ↦ λ e. same_place_is x y e
      | false ↦ λ e. absurd (false≢true (sym b ∙ other_before x y e a))
    ]) refl
