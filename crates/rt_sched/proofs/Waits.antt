-- Who waits at places, when one place is added or taken out.
use Rattle.std.proofs.Common.{◌≡◌, ℕ, Bool, true, false, cond, not, ◌||◌, List, [], ◌∷◌, ◌<◌, ◌+◌, eqb, refl, ap, ◌∙◌, sym, subst, ⊎_elim, arith, Option, Some, None}
use Rattle.std.proofs.lemmas.Bool.{or_parts, or_cases, or_right, or_left, or_from, eqb-true, eq-eqb, ne_eqb, both_ways}
use Rattle.std.proofs.lemmas.Bool.Decides.{nat_tests}
use Rattle.std.specs.Option.{option_map}
use Rattle.rt_lemmas.proofs.Bools.{or_swapped as or_swap}
use Rattle.rt_lemmas.proofs.Numbers.{eqb_turned as eqb_flip}
use Rattle.rt_sched.specs.Order.{order_before, same_order}
use Rattle.rt_sched.specs.Places.{place_before, same_place, with_place, has_place, without_place, first_place, first_place_under}
use Rattle.rt_sched.specs.Lines.{waits, who_waits, first_order, first_under, with_last, without_waiting, order_in, AllArrivedBelow, AllOnce}
use Rattle.rt_sched.specs.declared.order.ScopeOrder.{ScopeOrder}
use Rattle.rt_sched.specs.declared.place.Place.{Place}
use Rattle.rt_sched.proofs.PlaceLemmas.{same_place_is, same_place_itself}

-- ---- a place and who stands there
pub placed_waits : (p : Place) (ps : List Place) → has_place p ps ≡ true → waits p.number (who_waits ps) ≡ true
placed_waits p [] h = h
placed_waits p (q ∷ ps) h =
    ⊎_elim (λ (e : same_place p q ≡ true). or_left _ _ (eq-eqb p.number q.number (ap (λ (r : Place). r.number) (same_place_is p q e))))
    (λ (l : has_place p ps ≡ true). or_right _ _ (placed_waits p ps l)) (or_cases (same_place p q) (has_place p ps) h)

pub waiting_place : (n : ℕ) (ps : List Place) → waits n (who_waits ps) ≡ true → (p : Place) × (has_place p ps ≡ true) × (n ≡ p.number)
waiting_place n [] h = absurd (both_ways false refl h)
waiting_place n (q ∷ ps) h =
    ⊎_elim (λ (e : eqb n q.number ≡ true). (q, or_left _ _ (same_place_itself q), eqb-true n q.number e))
    (λ (l : waits n (who_waits ps) ≡ true). let w = waiting_place n ps l in (w.0, or_right _ _ w.1, w.2)) (or_cases (eqb n q.number) (waits n (who_waits ps)) h)

pub order_in_placed : (x : Place) (ps : List Place) → AllOnce ps → has_place x ps ≡ true → order_in x.number (who_waits ps) ≡ Some x.order
order_in_placed x [] s h = absurd (both_ways false refl h)
order_in_placed x (q ∷ ps) s h =
    ⊎_elim (λ (e : same_place x q ≡ true). let same = same_place_is x q e in rw same (rw (eq-eqb q.number q.number refl) refl))
    (λ (l : has_place x ps ≡ true).
    let w = placed_waits x ps l in
    let other : eqb x.number q.number ≡ false = ne_eqb x.number q.number (λ e. both_ways _ s.0 (subst (λ (n : ℕ). waits n (who_waits ps) ≡ true) e w)) in
    rw other (order_in_placed x ps s.1 l)) (or_cases (same_place x q) (has_place x ps) h)

pub order_in_absent : (n : ℕ) (es : List (ScopeOrder × ℕ)) → waits n es ≡ false → order_in n es ≡ None
order_in_absent n [] h = refl
order_in_absent n (e ∷ es) h = let parts = or_parts (eqb n e.1) (waits n es) h in rw parts.0 (order_in_absent n es parts.1)

pub without_waiting_absent : (n : ℕ) (es : List (ScopeOrder × ℕ)) → waits n es ≡ false → without_waiting n es ≡ es
without_waiting_absent n [] h = refl
without_waiting_absent n (e ∷ es) h =
    let parts = or_parts (eqb n e.1) (waits n es) h in
    rw parts.0 (ap (λ v. e ∷ v) (without_waiting_absent n es parts.1))

-- ---- one place more
last_before : (x q : Place) → q.arrival < x.arrival → place_before x q ≡ order_before x.order q.order
last_before x q h = grind (arith, nat_tests)

who_cases : (b : Bool) (x q : Place) (ps t : List Place) (es : List (ScopeOrder × ℕ)) → who_waits t ≡ es →
    who_waits (cond b (x ∷ q ∷ ps) (q ∷ t)) ≡ cond b ((x.order, x.number) ∷ (q.order, q.number) ∷ who_waits ps) ((q.order, q.number) ∷ es)
who_cases true x q ps t es e = refl
who_cases false x q ps t es e = ap (λ v. (q.order, q.number) ∷ v) e

pub who_waits_with_place : (x : Place) (ps : List Place) → AllArrivedBelow x.arrival ps → who_waits (with_place x ps) ≡ with_last x.order x.number (who_waits ps)
who_waits_with_place x [] b = refl
who_waits_with_place x (q ∷ ps) b =
    rw (last_before x q b.0) (who_cases (order_before x.order q.order) x q ps (with_place x ps) (with_last x.order x.number (who_waits ps)) (who_waits_with_place x ps b.1))

pub has_place_with_place : (p x : Place) (ps : List Place) → has_place p (with_place x ps) ≡ (same_place p x || has_place p ps)
has_place_with_place p x [] = refl
has_place_with_place p x (q ∷ ps) =
    elim (place_before x q) as (λ b. has_place p (cond b (x ∷ q ∷ ps) (q ∷ with_place x ps)) ≡ (same_place p x || (same_place p q || has_place p ps))) [
      | true ↦ refl
      | false ↦ ap (λ b. same_place p q || b) (has_place_with_place p x ps) ∙ or_swap (same_place p q) (same_place p x) (has_place p ps)
    ]

pub waits_with_place : (n : ℕ) (x : Place) (ps : List Place) → waits n (who_waits (with_place x ps)) ≡ (eqb n x.number || waits n (who_waits ps))
waits_with_place n x [] = refl
waits_with_place n x (q ∷ ps) =
    elim (place_before x q) as (λ b. waits n (who_waits (cond b (x ∷ q ∷ ps) (q ∷ with_place x ps))) ≡ (eqb n x.number || (eqb n q.number || waits n (who_waits ps)))) [
      | true ↦ refl
      | false ↦ ap (λ b. eqb n q.number || b) (waits_with_place n x ps) ∙ or_swap (eqb n q.number) (eqb n x.number) (waits n (who_waits ps))
    ]

pub below_with_place : (m : ℕ) (x : Place) (ps : List Place) → x.arrival < m → AllArrivedBelow m ps → AllArrivedBelow m (with_place x ps)
below_with_place m x [] h b = (h, tt)
below_with_place m x (q ∷ ps) h b =
    elim (place_before x q) as (λ t. AllArrivedBelow m (cond t (x ∷ q ∷ ps) (q ∷ with_place x ps))) [ true ↦ (h, b) | false ↦ (b.0, below_with_place m x ps h b.1) ]

pub below_more : (m n : ℕ) (ps : List Place) → m < n + 1 → AllArrivedBelow m ps → AllArrivedBelow n ps
below_more m n [] h b = tt
below_more m n (q ∷ ps) h b = (omega (arith, b.0), below_more m n ps h b.1)

pub once_with_place : (x : Place) (ps : List Place) → waits x.number (who_waits ps) ≡ false → AllOnce ps → AllOnce (with_place x ps)
once_with_place x [] h s = (refl, tt)
once_with_place x (q ∷ ps) h s =
    let parts = or_parts (eqb x.number q.number) (waits x.number (who_waits ps)) h in
    let apart : eqb q.number x.number ≡ false = eqb_flip q.number x.number ∙ parts.0 in
    elim (place_before x q) as (λ t. AllOnce (cond t (x ∷ q ∷ ps) (q ∷ with_place x ps))) [
      | true ↦ (h, s)
      | false ↦ (waits_with_place q.number x ps ∙ or_from _ _ apart s.0, once_with_place x ps parts.1 s.1)
    ]

-- ---- one place less
pub has_place_kept : (p x : Place) (ps : List Place) → same_place p x ≡ false → has_place p ps ≡ true → has_place p (without_place x ps) ≡ true
has_place_kept p x [] a h = h
has_place_kept p x (q ∷ ps) a h =
    (elim (same_place x q) as (λ b. same_place x q ≡ b → has_place p (cond b ps (q ∷ without_place x ps)) ≡ true) [
      | true ↦ λ e.
          let same = same_place_is x q e in
          ⊎_elim (λ (i : same_place p q ≡ true). absurd (both_ways _ a (subst (λ (r : Place). same_place p r ≡ true) (sym same) i))) (λ (l : has_place p ps ≡ true). l) (or_cases (same_place p q) (has_place p ps) h)
      | false ↦ λ e.
          ⊎_elim (λ (i : same_place p q ≡ true). or_left _ _ i) (λ (l : has_place p ps ≡ true). or_right _ _ (has_place_kept p x ps a l)) (or_cases (same_place p q) (has_place p ps) h)
    ]) refl

pub has_place_had : (p x : Place) (ps : List Place) → has_place p (without_place x ps) ≡ true → has_place p ps ≡ true
has_place_had p x [] h = h
has_place_had p x (q ∷ ps) h =
    (elim (same_place x q) as (λ b. has_place p (cond b ps (q ∷ without_place x ps)) ≡ true → has_place p (q ∷ ps) ≡ true) [
      | true ↦ λ h. or_right _ _ h
      | false ↦ λ h. ⊎_elim (λ (i : same_place p q ≡ true). or_left _ _ i) (λ (l : has_place p (without_place x ps) ≡ true). or_right _ _ (has_place_had p x ps l)) (or_cases (same_place p q) (has_place p (without_place x ps)) h)
    ]) h

waits_without_place : (n : ℕ) (x : Place) (ps : List Place) → waits n (who_waits ps) ≡ false → waits n (who_waits (without_place x ps)) ≡ false
waits_without_place n x [] h = h
waits_without_place n x (q ∷ ps) h =
    let parts = or_parts (eqb n q.number) (waits n (who_waits ps)) h in
    elim (same_place x q) as (λ b. waits n (who_waits (cond b ps (q ∷ without_place x ps))) ≡ false) [
      | true ↦ parts.1
      | false ↦ or_from _ _ parts.0 (waits_without_place n x ps parts.1)
    ]

pub once_without_place : (x : Place) (ps : List Place) → AllOnce ps → AllOnce (without_place x ps)
once_without_place x [] s = tt
once_without_place x (q ∷ ps) s =
    elim (same_place x q) as (λ b. AllOnce (cond b ps (q ∷ without_place x ps))) [
      | true ↦ s.1
      | false ↦ (waits_without_place q.number x ps s.0, once_without_place x ps s.1)
    ]

pub below_without_place : (m : ℕ) (x : Place) (ps : List Place) → AllArrivedBelow m ps → AllArrivedBelow m (without_place x ps)
below_without_place m x [] b = tt
below_without_place m x (q ∷ ps) b =
    elim (same_place x q) as (λ t. AllArrivedBelow m (cond t ps (q ∷ without_place x ps))) [ true ↦ b.1 | false ↦ (b.0, below_without_place m x ps b.1) ]

pub who_waits_without_place : (x : Place) (ps : List Place) → AllOnce ps → has_place x ps ≡ true → who_waits (without_place x ps) ≡ without_waiting x.number (who_waits ps)
who_waits_without_place x [] s h = absurd (both_ways false refl h)
who_waits_without_place x (q ∷ ps) s h =
    (elim (same_place x q) as (λ b. same_place x q ≡ b → who_waits (cond b ps (q ∷ without_place x ps)) ≡ without_waiting x.number ((q.order, q.number) ∷ who_waits ps)) [
      | true ↦ λ e.
          let number : x.number ≡ q.number = ap (λ (r : Place). r.number) (same_place_is x q e) in
          let absent : waits x.number (who_waits ps) ≡ false = rw number s.0 in
          rw (eq-eqb x.number q.number number) (sym (without_waiting_absent x.number (who_waits ps) absent))
      | false ↦ λ e.
          let later : has_place x ps ≡ true = ⊎_elim (λ (i : same_place x q ≡ true). absurd (both_ways _ e i)) (λ (l : has_place x ps ≡ true). l) (or_cases (same_place x q) (has_place x ps) h) in
          let w = placed_waits x ps later in
          let other : eqb x.number q.number ≡ false = ne_eqb x.number q.number (λ i. both_ways _ s.0 (subst (λ (n : ℕ). waits n (who_waits ps) ≡ true) i w)) in
          rw other (ap (λ v. (q.order, q.number) ∷ v) (who_waits_without_place x ps s.1 later))
    ]) refl

pub waits_filtered : (n : ℕ) (es : List (ScopeOrder × ℕ)) → waits n (without_waiting n es) ≡ false
waits_filtered n [] = refl
waits_filtered n (e ∷ es) =
    (elim (eqb n e.1) as (λ b. eqb n e.1 ≡ b → waits n (cond (not b) (e ∷ without_waiting n es) (without_waiting n es)) ≡ false) [
      | true ↦ λ _. waits_filtered n es
      | false ↦ λ h. or_from _ _ h (waits_filtered n es)
    ]) refl

pub gone_without_place : (x : Place) (ps : List Place) → AllOnce ps → has_place x ps ≡ true → waits x.number (who_waits (without_place x ps)) ≡ false
gone_without_place x ps s h = rw (who_waits_without_place x ps s h) (waits_filtered x.number (who_waits ps))

-- ---- the first places
pub first_who_waits : (ps : List Place) → first_order (who_waits ps) ≡ option_map (λ (p : Place). p.order) (first_place ps)
first_who_waits [] = refl
first_who_waits (p ∷ ps) = refl

under_cases : (b : Bool) (p : Place) (f : Option ℕ) (g : Option Place) → f ≡ option_map (λ (q : Place). q.number) g → cond b (Some p.number) f ≡ option_map (λ (q : Place). q.number) (cond b (Some p) g)
under_cases true p f g e = refl
under_cases false p f g e = e

pub under_who_waits : (o : ScopeOrder) (ps : List Place) → first_under o (who_waits ps) ≡ option_map (λ (p : Place). p.number) (first_place_under o ps)
under_who_waits o [] = refl
under_who_waits o (p ∷ ps) = under_cases (same_order o p.order) p (first_under o (who_waits ps)) (first_place_under o ps) (under_who_waits o ps)

pub nobody_waits : (ps : List Place) → who_waits ps ≡ [] → ps ≡ []
nobody_waits [] e = refl
nobody_waits (p ∷ ps) e = cc
