-- The places after one, and who waits behind a number.
use Rattle.std.proofs.Common.{◌≡◌, ℕ, Bool, true, false, cond, List, [], ◌∷◌, ◌++◌, eqb, refl, ap, ◌∙◌, sym, subst, ⊎_elim, Option, Some, None}
use Rattle.std.proofs.lemmas.Bool.{or_parts, or_cases, eq-eqb, ne_eqb, both_ways, false_from_ne_true}
use Rattle.std.specs.Option.{is_some, option_map, option_or}
use Rattle.rt_sched.specs.Places.{place_before, same_place, NoneBefore, IsInOrder, has_place, first_place, after_place}
use Rattle.rt_sched.specs.Lines.{waits, who_waits, behind, first_in, AllOnce, IsLine}
use Rattle.rt_sched.specs.declared.order.ScopeOrder.{ScopeOrder}
use Rattle.rt_sched.specs.declared.place.Place.{Place}
use Rattle.rt_sched.proofs.InOrder.{NoneBefore-middle}
use Rattle.rt_sched.proofs.LineLemmas.{not_waiting, order_by_place}
use Rattle.rt_sched.proofs.PlaceLemmas.{not_before_trans, not_before_itself, other_before, same_place_is}
use Rattle.rt_sched.proofs.RollLemmas.{order_in_waits}
use Rattle.rt_sched.proofs.Waits.{placed_waits}

-- ---- the places after x, around one place k of the list
first_either : (b : Bool) (y : Place) (zs l ps qs : List Place) (k : Place) → first_place ps ≡ option_or (first_place qs) (Some k)
    → first_place (cond b (y ∷ zs) ps) ≡ option_or (first_place (cond b (y ∷ l) qs)) (Some k)
first_either true y zs l ps qs k h = refl
first_either false y zs l ps qs k h = h

pub after_left : (x : Place) (l : List Place) (k : Place) (r : List Place) → place_before x k ≡ true → first_place (after_place x (l ++ k ∷ r)) ≡ option_or (first_place (after_place x l)) (Some k)
after_left x [] k r h = rw h refl
after_left x (y ∷ l) k r h =
    first_either (place_before x y) y (l ++ k ∷ r) l (after_place x (l ++ k ∷ r)) (after_place x l) k (after_left x l k r h)

pub after_right : (x : Place) (l : List Place) (k : Place) (r : List Place) → place_before x k ≡ false → IsInOrder (l ++ k ∷ r) → after_place x (l ++ k ∷ r) ≡ after_place x r
after_right x [] k r h s = rw h refl
after_right x (y ∷ l) k r h s =
    let late : place_before x y ≡ false = not_before_trans y k x h (NoneBefore-middle y l k r s.0) in
    rw late (after_right x l k r h s.1)

-- ---- the first of them
-- who stands at a place
abbrev pub who : Place → ScopeOrder × ℕ
who p = (p.order, p.number)

pub first_placed : (ps : List Place) → first_in (who_waits ps) ≡ option_map who (first_place ps)
first_placed [] = refl
first_placed (p ∷ ps) = refl

-- after the first place all others come
followed : (p : Place) (ps : List Place) → NoneBefore p ps → waits p.number (who_waits ps) ≡ false → after_place p ps ≡ ps
followed p [] n w = refl
followed p (r ∷ ps) n w =
    let apart : eqb p.number r.number ≡ false = (or_parts (eqb p.number r.number) (waits p.number (who_waits ps)) w).0 in
    let other : same_place r p ≡ false = false_from_ne_true (same_place r p) (λ t. both_ways _ apart (eq-eqb p.number r.number (ap (λ (q : Place). q.number) (sym (same_place_is r p t))))) in
    rw (other_before r p other n.0) refl

-- no place of the list comes before its first one
not_sooner : (q x : Place) (ps : List Place) → NoneBefore q ps → has_place x ps ≡ true → place_before x q ≡ false
not_sooner q x [] n h = absurd (both_ways false refl h)
not_sooner q x (r ∷ ps) n h =
    ⊎_elim (λ (i : same_place x r ≡ true). subst (λ (p : Place). place_before p q ≡ false) (sym (same_place_is x r i)) n.0)
    (λ (l : has_place x ps ≡ true). not_sooner q x ps n.1 l) (or_cases (same_place x r) (has_place x ps) h)

-- who waits behind a number stands after its place
pub behind_place : (x : Place) (ps : List Place) → IsInOrder ps → AllOnce ps → has_place x ps ≡ true → behind x.number (who_waits ps) ≡ who_waits (after_place x ps)
behind_place x [] s o h = absurd (both_ways false refl h)
behind_place x (q ∷ ps) s o h =
    (elim (same_place x q) as (λ b. same_place x q ≡ b → behind x.number (who_waits (q ∷ ps)) ≡ who_waits (after_place x (q ∷ ps))) [
      | true ↦ λ e.
          let same : x ≡ q = same_place_is x q e in
          let number : eqb x.number q.number ≡ true = eq-eqb x.number q.number (ap (λ (r : Place). r.number) same) in
          let late : place_before x q ≡ false = subst (λ (r : Place). place_before x r ≡ false) same (not_before_itself x) in
          let rest : after_place x ps ≡ ps = subst (λ (r : Place). after_place r ps ≡ ps) (sym same) (followed q ps s.0 o.0) in
          rw (number, late, rest) refl
      | false ↦ λ e.
          let later : has_place x ps ≡ true = ⊎_elim (λ (i : same_place x q ≡ true). absurd (both_ways _ e i)) (λ (l : has_place x ps ≡ true). l) (or_cases (same_place x q) (has_place x ps) h) in
          let there : waits x.number (who_waits ps) ≡ true = placed_waits x ps later in
          let other : eqb x.number q.number ≡ false = ne_eqb x.number q.number (λ i. both_ways _ o.0 (subst (λ (n : ℕ). waits n (who_waits ps) ≡ true) i there)) in
          let late : place_before x q ≡ false = not_sooner q x ps s.0 later in
          rw (other, late) (behind_place x ps s.1 o.1 later)
    ]) refl

-- behind a number that doesn't wait is nobody
pub behind_nobody : (n : ℕ) (es : List (ScopeOrder × ℕ)) → waits n es ≡ false → behind n es ≡ []
behind_nobody n [] h = refl
behind_nobody n (e ∷ es) h = let parts = or_parts (eqb n e.1) (waits n es) h in rw parts.0 (behind_nobody n es parts.1)

-- ---- by the place that a member's seat names
pub first_behind_at : (f : ℕ → Option Place) (ps : List Place) (a n : ℕ) (x : Place) → IsLine f ps a → f n ≡ Some x → first_in (behind n (who_waits ps)) ≡ option_map who (first_place (after_place x ps))
first_behind_at f ps a n x l some =
    let s = l.stands n x some in
    let by : behind n (who_waits ps) ≡ who_waits (after_place x ps) = subst (λ (m : ℕ). behind m (who_waits ps) ≡ who_waits (after_place x ps)) s.1 (behind_place x ps l.in_order l.once s.0) in
    ap first_in by ∙ first_placed (after_place x ps)

pub first_behind_none : (f : ℕ → Option Place) (ps : List Place) (a n : ℕ) → IsLine f ps a → f n ≡ None → first_in (behind n (who_waits ps)) ≡ None
first_behind_none f ps a n l none = ap first_in (behind_nobody n (who_waits ps) (not_waiting f ps a n l none))

some_mapped : (o : Option Place) → is_some (option_map (λ (p : Place). p.order) o) ≡ is_some o
some_mapped None = refl
some_mapped (Some x) = refl

pub waits_by_place : (f : ℕ → Option Place) (ps : List Place) (a n : ℕ) → IsLine f ps a → waits n (who_waits ps) ≡ is_some (f n)
waits_by_place f ps a n l = sym (order_in_waits n (who_waits ps)) ∙ ap is_some (order_by_place f ps a n l) ∙ some_mapped (f n)
