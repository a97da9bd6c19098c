-- Places in order, around one place k of the list.
use Rattle.std.proofs.Common.{◌≡◌, Bool, true, false, cond, ◌||◌, List, [], ◌∷◌, ◌++◌, length, ◌<◌, refl, ap, ◌∙◌, sym, subst, arith, Option, Some, None}
use Rattle.std.proofs.lemmas.Grind.{common_steps}
use Rattle.std.proofs.lemmas.Bool.{or_parts, or_right}
use Rattle.std.proofs.lemmas.Bool.Decides.{nat_tests}
use Rattle.std.specs.Option.{option_or}
use Rattle.rt_sched.specs.Order.{order_before, same_order}
use Rattle.rt_sched.specs.Places.{place_before, same_place, NoneBefore, IsInOrder, with_place, has_place, without_place, first_place_under}
use Rattle.rt_sched.specs.declared.order.ScopeOrder.{ScopeOrder}
use Rattle.rt_sched.specs.declared.place.Place.{Place}
use Rattle.rt_sched.proofs.PlaceLemmas.{not_before_trans, before_not_before, before_other, other_before, not_before_itself, same_place_is, neither_before}

-- the first of two lists
NoneBefore-front : (p : Place) (l r : List Place) → NoneBefore p (l ++ r) → NoneBefore p l
NoneBefore-front p [] r h = tt
NoneBefore-front p (q ∷ l) r h = (h.0, NoneBefore-front p l r h.1)

-- one in the middle
pub NoneBefore-middle : (p : Place) (l : List Place) (k : Place) (r : List Place) → NoneBefore p (l ++ k ∷ r) → place_before k p ≡ false
NoneBefore-middle p [] k r h = h.0
NoneBefore-middle p (q ∷ l) k r h = NoneBefore-middle p l k r h.1

pub in_order_left : (l : List Place) (k : Place) (r : List Place) → IsInOrder (l ++ k ∷ r) → IsInOrder l
in_order_left [] k r h = tt
in_order_left (p ∷ l) k r h = (NoneBefore-front p l (k ∷ r) h.0, in_order_left l k r h.1)

pub in_order_right : (l : List Place) (k : Place) (r : List Place) → IsInOrder (l ++ k ∷ r) → IsInOrder r
in_order_right [] k r h = h.1
in_order_right (p ∷ l) k r h = in_order_right l k r h.1

-- two lists are each shorter than both with one more
pub sides_shorter : (l : List Place) (k : Place) (r : List Place) → (length l < length (l ++ k ∷ r)) × (length r < length (l ++ k ∷ r))
sides_shorter l k r = grind (arith, common_steps)

-- ---- one more place
with_cases : (b : Bool) (x y : Place) (t u : List Place) (m : List Place) → cond b (x ∷ y ∷ (t ++ m)) (y ∷ (u ++ m)) ≡ cond b (x ∷ y ∷ t) (y ∷ u) ++ m
with_cases true x y t u m = refl
with_cases false x y t u m = refl

pub with_place_left : (x : Place) (l : List Place) (k : Place) (r : List Place) → place_before x k ≡ true → with_place x (l ++ k ∷ r) ≡ with_place x l ++ k ∷ r
with_place_left x [] k r h = rw h refl
with_place_left x (y ∷ l) k r h =
    ap (λ v. cond (place_before x y) (x ∷ y ∷ (l ++ k ∷ r)) (y ∷ v)) (with_place_left x l k r h) ∙ with_cases (place_before x y) x y l (with_place x l) (k ∷ r)

pub with_place_right : (x : Place) (l : List Place) (k : Place) (r : List Place) → place_before x k ≡ false → IsInOrder (l ++ k ∷ r) → with_place x (l ++ k ∷ r) ≡ l ++ k ∷ with_place x r
with_place_right x [] k r h s = rw h refl
with_place_right x (y ∷ l) k r h s =
    let late : place_before x y ≡ false = not_before_trans y k x h (NoneBefore-middle y l k r s.0) in
    rw late (ap (λ v. y ∷ v) (with_place_right x l k r h s.1))

NoneBefore-with_place : (p x : Place) (l : List Place) → place_before x p ≡ false → NoneBefore p l → NoneBefore p (with_place x l)
NoneBefore-with_place p x [] h n = (h, tt)
NoneBefore-with_place p x (y ∷ l) h n =
    elim (place_before x y) as (λ b. NoneBefore p (cond b (x ∷ y ∷ l) (y ∷ with_place x l))) [ true ↦ (h, n) | false ↦ (n.0, NoneBefore-with_place p x l h n.1) ]

NoneBefore-earlier : (x y : Place) (l : List Place) → place_before x y ≡ true → NoneBefore y l → NoneBefore x l
NoneBefore-earlier x y [] h n = tt
NoneBefore-earlier x y (z ∷ l) h n = (before_not_before x y z h n.0, NoneBefore-earlier x y l h n.1)

pub in_order_with_place : (x : Place) (l : List Place) → IsInOrder l → IsInOrder (with_place x l)
in_order_with_place x [] s = (tt, tt)
in_order_with_place x (y ∷ l) s =
    (elim (place_before x y) as (λ b. place_before x y ≡ b → IsInOrder (cond b (x ∷ y ∷ l) (y ∷ with_place x l))) [
      | true ↦ λ e. ((before_not_before x y y e (not_before_itself y), NoneBefore-earlier x y l e s.0), s)
      | false ↦ λ e. (NoneBefore-with_place y x l e s.0, in_order_with_place x l s.1)
    ]) refl

-- ---- one place less
has_place_later : (x k : Place) (r : List Place) → place_before x k ≡ true → NoneBefore k r → has_place x r ≡ false
has_place_later x k [] h n = refl
has_place_later x k (z ∷ r) h n =
    let apart : same_place x z ≡ false = grind (arith, common_steps, before_other x z, before_not_before x k z h n.0, other_before x z, not_before_trans k z x) in
    rw apart (has_place_later x k r h n.1)

pub has_place_left : (x : Place) (l : List Place) (k : Place) (r : List Place) → place_before x k ≡ true → IsInOrder (l ++ k ∷ r) → has_place x (l ++ k ∷ r) ≡ has_place x l
has_place_left x [] k r h s = rw (before_other x k h) (has_place_later x k r h s.0)
has_place_left x (y ∷ l) k r h s = ap (λ b. same_place x y || b) (has_place_left x l k r h s.1)

-- what stands before k isn't x, which comes after k
earlier_apart : (x k y : Place) → same_place x k ≡ false → place_before x k ≡ false → place_before k y ≡ false → same_place x y ≡ false
earlier_apart x k y a b h =
    let after = other_before x k a b in
    grind (arith, common_steps, not_before_trans y k x b h, before_other k x after)

pub has_place_right : (x : Place) (l : List Place) (k : Place) (r : List Place) → same_place x k ≡ false → place_before x k ≡ false → IsInOrder (l ++ k ∷ r) → has_place x (l ++ k ∷ r) ≡ has_place x r
has_place_right x [] k r a b s = rw a refl
has_place_right x (y ∷ l) k r a b s =
    rw (earlier_apart x k y a b (NoneBefore-middle y l k r s.0)) (has_place_right x l k r a b s.1)

pub has_place_middle : (x : Place) (l : List Place) (k : Place) (r : List Place) → same_place x k ≡ true → has_place x (l ++ k ∷ r) ≡ true
has_place_middle x [] k r e = rw e refl
has_place_middle x (y ∷ l) k r e = or_right _ _ (has_place_middle x l k r e)

pub without_place-absent : (x : Place) (l : List Place) → has_place x l ≡ false → without_place x l ≡ l
without_place-absent x [] h = refl
without_place-absent x (y ∷ l) h =
    let parts = or_parts (same_place x y) (has_place x l) h in
    rw parts.0 (ap (λ v. y ∷ v) (without_place-absent x l parts.1))

without_cases : (b : Bool) (y : Place) (t u m : List Place) → cond b (t ++ m) (y ∷ (u ++ m)) ≡ cond b t (y ∷ u) ++ m
without_cases true y t u m = refl
without_cases false y t u m = refl

pub without_place_left : (x : Place) (l : List Place) (k : Place) (r : List Place) → place_before x k ≡ true → IsInOrder (l ++ k ∷ r) → without_place x (l ++ k ∷ r) ≡ without_place x l ++ k ∷ r
without_place_left x [] k r h s = rw (before_other x k h) (ap (λ v. k ∷ v) (without_place-absent x r (has_place_later x k r h s.0)))
without_place_left x (y ∷ l) k r h s =
    ap (λ v. cond (same_place x y) (l ++ k ∷ r) (y ∷ v)) (without_place_left x l k r h s.1) ∙ without_cases (same_place x y) y l (without_place x l) (k ∷ r)

pub without_place_right : (x : Place) (l : List Place) (k : Place) (r : List Place) → same_place x k ≡ false → place_before x k ≡ false → IsInOrder (l ++ k ∷ r) → without_place x (l ++ k ∷ r) ≡ l ++ k ∷ without_place x r
without_place_right x [] k r a b s = rw a refl
without_place_right x (y ∷ l) k r a b s =
    rw (earlier_apart x k y a b (NoneBefore-middle y l k r s.0)) (ap (λ v. y ∷ v) (without_place_right x l k r a b s.1))

-- a place that none before it comes before may stand first
slide : (k : Place) (l r : List Place) → NoneBefore k l → IsInOrder (l ++ k ∷ r) → l ++ k ∷ r ≡ k ∷ (l ++ r)
slide k [] r n s = refl
slide k (z ∷ l) r n s =
    let same : z ≡ k = neither_before z k n.0 (NoneBefore-middle z l k r s.0) in
    ap (λ v. z ∷ v) (slide k l r n.1 s.1) ∙ rw same refl

pub without_place_middle : (x : Place) (l : List Place) (k : Place) (r : List Place) → same_place x k ≡ true → IsInOrder (l ++ k ∷ r) → without_place x (l ++ k ∷ r) ≡ l ++ r
without_place_middle x [] k r e s = rw e refl
without_place_middle x (y ∷ l) k r e s =
    (elim (same_place x y) as (λ b. same_place x y ≡ b → cond b (l ++ k ∷ r) (y ∷ without_place x (l ++ k ∷ r)) ≡ y ∷ (l ++ r)) [
      | true ↦ λ h.
          let same : y ≡ k = sym (same_place_is x y h) ∙ same_place_is x k e in
          slide k l r (subst (λ v. NoneBefore v l) same (NoneBefore-front y l (k ∷ r) s.0)) s.1 ∙ rw same refl
      | false ↦ λ h. ap (λ v. y ∷ v) (without_place_middle x l k r e s.1)
    ]) refl

in_order_tail : (p q : Place) (l : List Place) → NoneBefore p l → NoneBefore p (without_place q l)
in_order_tail p q [] n = tt
in_order_tail p q (y ∷ l) n =
    elim (same_place q y) as (λ b. NoneBefore p (cond b l (y ∷ without_place q l))) [ true ↦ n.1 | false ↦ (n.0, in_order_tail p q l n.1) ]

pub in_order_without_place : (x : Place) (l : List Place) → IsInOrder l → IsInOrder (without_place x l)
in_order_without_place x [] s = tt
in_order_without_place x (y ∷ l) s =
    elim (same_place x y) as (λ b. IsInOrder (cond b l (y ∷ without_place x l))) [ true ↦ s.1 | false ↦ (in_order_tail y x l s.0, in_order_without_place x l s.1) ]

-- ---- the first place under an order
before_apart : (o p : ScopeOrder) → order_before o p ≡ true → same_order o p ≡ false
before_apart o p h = grind (arith, nat_tests)

after_apart : (o p : ScopeOrder) → order_before p o ≡ true → same_order o p ≡ false
after_apart o p h = grind (arith, nat_tests)

later_apart : (o : ScopeOrder) (k z : Place) → order_before o k.order ≡ true → place_before z k ≡ false → same_order o z.order ≡ false
later_apart o k z h n = grind (arith, nat_tests)

sooner_apart : (o : ScopeOrder) (k y : Place) → order_before k.order o ≡ true → place_before k y ≡ false → same_order o y.order ≡ false
sooner_apart o k y h n = grind (arith, nat_tests)

none_under : (o : ScopeOrder) (k : Place) (r : List Place) → order_before o k.order ≡ true → NoneBefore k r → first_place_under o r ≡ None
none_under o k [] h n = refl
none_under o k (z ∷ r) h n = rw (later_apart o k z h n.0) (none_under o k r h n.1)

pub under_left : (o : ScopeOrder) (l : List Place) (k : Place) (r : List Place) → order_before o k.order ≡ true → IsInOrder (l ++ k ∷ r) → first_place_under o (l ++ k ∷ r) ≡ first_place_under o l
under_left o [] k r h s = rw (before_apart o k.order h) (none_under o k r h s.0)
under_left o (y ∷ l) k r h s = ap (λ v. cond (same_order o y.order) (Some y) v) (under_left o l k r h s.1)

pub under_right : (o : ScopeOrder) (l : List Place) (k : Place) (r : List Place) → order_before k.order o ≡ true → IsInOrder (l ++ k ∷ r) → first_place_under o (l ++ k ∷ r) ≡ first_place_under o r
under_right o [] k r h s = rw (after_apart o k.order h) refl
under_right o (y ∷ l) k r h s = rw (sooner_apart o k y h (NoneBefore-middle y l k r s.0)) (under_right o l k r h s.1)

neither_same : (o p : ScopeOrder) → order_before o p ≡ false → order_before p o ≡ false → same_order o p ≡ true
neither_same o p a b = grind (arith, nat_tests)

cond_option_or : (b : Bool) (y : Place) (found : Option Place) (k : Place) → cond b (Some y) (option_or found (Some k)) ≡ option_or (cond b (Some y) found) (Some k)
cond_option_or true y found k = refl
cond_option_or false y found k = refl

pub under_middle : (o : ScopeOrder) (l : List Place) (k : Place) (r : List Place) → order_before o k.order ≡ false → order_before k.order o ≡ false → first_place_under o (l ++ k ∷ r) ≡ option_or (first_place_under o l) (Some k)
under_middle o [] k r a b = rw (neither_same o k.order a b) refl
under_middle o (y ∷ l) k r a b = ap (λ v. cond (same_order o y.order) (Some y) v) (under_middle o l k r a b) ∙ cond_option_or (same_order o y.order) y (first_place_under o l) k

pub not_empty : (l : List Place) (k : Place) (r : List Place) → l ++ k ∷ r ≡ [] → ⊥
not_empty [] k r e = cc
not_empty (y ∷ l) k r e = cc
