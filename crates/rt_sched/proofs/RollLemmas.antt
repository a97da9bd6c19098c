-- Three lines of one roll, when a number enters, waits, leaves or is looked at.
use Rattle.std.proofs.Common.{◌≡◌, ℕ, Bool, true, false, cond, not, ◌||◌, ◌&&◌, List, [], ◌∷◌, ◌<◌, length, eqb, suc, refl, ap, ◌∙◌, sym, subst, ⊎_elim, arith, Option, Some, None}
use Rattle.std.proofs.lemmas.Bool.{or_parts, or_cases, or_right, or_left, or_from, and_parts, eqb-true, eq-eqb, ne_eqb, eqb-false, both_ways, false_from_ne_true}
use Rattle.std.specs.List.{filter}
use Rattle.std.specs.Option.{is_some}
use Rattle.rt_lemmas.proofs.Bools.{or_swapped as or_swap}
use Rattle.rt_sched.specs.Order.{order_before, same_order}
use Rattle.rt_sched.specs.Lines.{Row, has_number, Joins, Leaves, waits, with_last, with_waiting, without_waiting, order_in, first_under}
use Rattle.rt_sched.specs.Rosters.{AreLines, HasMembers, AllUnder, stands_under, all_waiting, without_under}
use Rattle.rt_sched.specs.declared.order.ScopeOrder.{ScopeOrder}
use Rattle.rt_sched.proofs.PlaceLemmas.{same_order_is}
use Rattle.rt_sched.proofs.Waits.{order_in_absent}

-- ---- one more waits
pub waits_with_last : (m n : ℕ) (o : ScopeOrder) (es : List (ScopeOrder × ℕ)) → waits m (with_last o n es) ≡ (eqb m n || waits m es)
waits_with_last m n o [] = refl
waits_with_last m n o (e ∷ es) =
    elim (order_before o e.0) as (λ b. waits m (cond b ((o, n) ∷ e ∷ es) (e ∷ with_last o n es)) ≡ (eqb m n || (eqb m e.1 || waits m es))) [
      | true ↦ refl
      | false ↦ ap (λ b. eqb m e.1 || b) (waits_with_last m n o es) ∙ or_swap (eqb m e.1) (eqb m n) (waits m es)
    ]

cond_swap : (a b : Bool) (x y z : Option ScopeOrder) → (a ≡ true → b ≡ true → ⊥) → cond a x (cond b y z) ≡ cond b y (cond a x z)
cond_swap true true x y z h = absurd (h refl refl)
cond_swap true false x y z h = refl
cond_swap false true x y z h = refl
cond_swap false false x y z h = refl

pub order_in_with_last : (m n : ℕ) (o : ScopeOrder) (es : List (ScopeOrder × ℕ)) → waits n es ≡ false → order_in m (with_last o n es) ≡ cond (eqb m n) (Some o) (order_in m es)
order_in_with_last m n o [] h = refl
order_in_with_last m n o (e ∷ es) h =
    let parts = or_parts (eqb n e.1) (waits n es) h in
    elim (order_before o e.0) as (λ b. order_in m (cond b ((o, n) ∷ e ∷ es) (e ∷ with_last o n es)) ≡ cond (eqb m n) (Some o) (cond (eqb m e.1) (Some e.0) (order_in m es))) [
      | true ↦ refl
      | false ↦ ap (λ v. cond (eqb m e.1) (Some e.0) v) (order_in_with_last m n o es parts.1)
          ∙ cond_swap (eqb m e.1) (eqb m n) (Some e.0) (Some o) (order_in m es) (λ a b. eqb-false n e.1 parts.0 (sym (eqb-true m n b) ∙ eqb-true m e.1 a))
    ]

pub same_order_itself : (o : ScopeOrder) → same_order o o ≡ true
same_order_itself o = rw (eq-eqb o.height o.height refl, eq-eqb o.id.0 o.id.0 refl) refl

-- ---- who stands under an order
pub stands_waits : (n : ℕ) (o : ScopeOrder) (es : List (ScopeOrder × ℕ)) → stands_under n o es ≡ true → waits n es ≡ true
stands_waits n o [] h = h
stands_waits n o (e ∷ es) h =
    ⊎_elim (λ (i : (eqb n e.1 && same_order o e.0) ≡ true). or_left _ _ (and_parts (eqb n e.1) (same_order o e.0) i).0)
    (λ (l : stands_under n o es ≡ true). or_right _ _ (stands_waits n o es l)) (or_cases (eqb n e.1 && same_order o e.0) (stands_under n o es) h)

pub stands_order : (n : ℕ) (o : ScopeOrder) (ts es : List (ScopeOrder × ℕ)) → AllUnder ts es → stands_under n o es ≡ true → order_in n ts ≡ Some o
stands_order n o ts [] u h = absurd (both_ways false refl h)
stands_order n o ts (e ∷ es) u h =
    ⊎_elim (λ (i : (eqb n e.1 && same_order o e.0) ≡ true).
    let parts = and_parts (eqb n e.1) (same_order o e.0) i in
    ap (λ m. order_in m ts) (eqb-true n e.1 parts.0) ∙ u.0 ∙ ap Some (sym (same_order_is o e.0 parts.1)))
    (λ (l : stands_under n o es ≡ true). stands_order n o ts es u.1 l) (or_cases (eqb n e.1 && same_order o e.0) (stands_under n o es) h)

pub order_stands : (n : ℕ) (o : ScopeOrder) (es : List (ScopeOrder × ℕ)) → order_in n es ≡ Some o → stands_under n o es ≡ true
order_stands n o [] h = absurd cc
order_stands n o (e ∷ es) k =
    (elim (eqb n e.1) as (λ b. cond b (Some e.0) (order_in n es) ≡ Some o → ((b && same_order o e.0) || stands_under n o es) ≡ true) [
      | true ↦ λ h. let is : e.0 ≡ o = cc in or_left _ _ (subst (λ p. same_order o p ≡ true) (sym is) (same_order_itself o))
      | false ↦ λ h. order_stands n o es h
    ]) k

-- whether a number stands under an order is told by the order under which it stands
pub stands_by_order : (n : ℕ) (o p : ScopeOrder) (es : List (ScopeOrder × ℕ)) → AllUnder es es → order_in n es ≡ Some p → same_order o p ≡ stands_under n o es
stands_by_order n o p es u at =
    (elim (same_order o p) as (λ b. same_order o p ≡ b → b ≡ stands_under n o es) [
      | true ↦ λ t. sym (order_stands n o es (at ∙ ap Some (sym (same_order_is o p t))))
      | false ↦ λ f. sym (false_from_ne_true (stands_under n o es) (λ t.
          let same : Some p ≡ Some o = sym at ∙ stands_order n o es es u t in
          let is : p ≡ o = cc in
          both_ways _ f (subst (λ q. same_order o q ≡ true) (sym is) (same_order_itself o))))
    ]) refl

pub stands_nowhere : (n : ℕ) (o : ScopeOrder) (es : List (ScopeOrder × ℕ)) → AllUnder es es → order_in n es ≡ None → false ≡ stands_under n o es
stands_nowhere n o es u at =
    sym (false_from_ne_true (stands_under n o es) (λ t. let none : None ≡ Some o = sym at ∙ stands_order n o es es u t in absurd cc))

under_with_last : (n : ℕ) (o : ScopeOrder) (ts es : List (ScopeOrder × ℕ)) → AllUnder ts es → order_in n ts ≡ Some o → AllUnder ts (with_last o n es)
under_with_last n o ts [] u h = (h, tt)
under_with_last n o ts (e ∷ es) u h =
    elim (order_before o e.0) as (λ b. AllUnder ts (cond b ((o, n) ∷ e ∷ es) (e ∷ with_last o n es))) [ true ↦ (h, u) | false ↦ (u.0, under_with_last n o ts es u.1 h) ]

pub under_with_waiting : (n : ℕ) (o : ScopeOrder) (ts es : List (ScopeOrder × ℕ)) → AllUnder ts es → order_in n ts ≡ Some o → AllUnder ts (with_waiting o n es)
under_with_waiting n o ts es u h = elim (waits n es) as (λ b. AllUnder ts (cond b es (with_last o n es))) [ true ↦ u | false ↦ under_with_last n o ts es u h ]

under_filter : (p : ScopeOrder × ℕ → Bool) (ts es : List (ScopeOrder × ℕ)) → AllUnder ts es → AllUnder ts (filter p es)
under_filter p ts [] u = tt
under_filter p ts (e ∷ es) u = elim (p e) as (λ b. AllUnder ts (cond b (e ∷ filter p es) (filter p es))) [ true ↦ (u.0, under_filter p ts es u.1) | false ↦ under_filter p ts es u.1 ]

pub under_without : (n : ℕ) (ts es : List (ScopeOrder × ℕ)) → AllUnder ts es → AllUnder ts (without_waiting n es)
under_without n ts es u = under_filter (λ e. not (eqb n e.1)) ts es u

pub under_all : (ts ps es : List (ScopeOrder × ℕ)) → AllUnder ts ps → AllUnder ts es → AllUnder ts (all_waiting ps es)
under_all ts [] es v u = u
under_all ts (p ∷ ps) es v u = under_all ts ps (with_waiting p.0 p.1 es) v.1 (under_with_waiting p.1 p.0 ts es u v.0)

pub under_grow : (n : ℕ) (o : ScopeOrder) (ts es : List (ScopeOrder × ℕ)) → waits n ts ≡ false → AllUnder ts es → AllUnder (with_last o n ts) es
under_grow n o ts [] h u = tt
under_grow n o ts (e ∷ es) h u =
    let apart : eqb e.1 n ≡ false = ne_eqb e.1 n (λ s. let none : None ≡ Some e.0 = sym (order_in_absent n ts h) ∙ ap (λ m. order_in m ts) (sym s) ∙ u.0 in absurd cc) in
    (order_in_with_last e.1 n o ts h ∙ rw apart u.0, under_grow n o ts es h u.1)

pub own_grow : (n : ℕ) (o : ScopeOrder) (ts : List (ScopeOrder × ℕ)) → waits n ts ≡ false → AllUnder ts ts → AllUnder (with_last o n ts) (with_last o n ts)
own_grow n o ts h u =
    under_with_last n o (with_last o n ts) ts (under_grow n o ts ts h u) (order_in_with_last n n o ts h ∙ rw (eq-eqb n n refl) refl)

pub order_in_waits : (n : ℕ) (es : List (ScopeOrder × ℕ)) → is_some (order_in n es) ≡ waits n es
order_in_waits n [] = refl
order_in_waits n (e ∷ es) = elim (eqb n e.1) as (λ b. is_some (cond b (Some e.0) (order_in n es)) ≡ (b || waits n es)) [ true ↦ refl | false ↦ order_in_waits n es ]

pub under_absent : (n : ℕ) (ts es : List (ScopeOrder × ℕ)) → AllUnder ts es → waits n ts ≡ false → waits n es ≡ false
under_absent n ts [] u h = refl
under_absent n ts (e ∷ es) u h =
    let apart : eqb n e.1 ≡ false = ne_eqb n e.1 (λ s. let none : None ≡ Some e.0 = sym (order_in_absent n ts h) ∙ ap (λ m. order_in m ts) s ∙ u.0 in absurd cc) in
    or_from _ _ apart (under_absent n ts es u.1 h)

-- ---- one number less
pub order_in_without : (m n : ℕ) (es : List (ScopeOrder × ℕ)) → eqb m n ≡ false → order_in m (without_waiting n es) ≡ order_in m es
order_in_without m n [] h = refl
order_in_without m n (e ∷ es) h =
    (elim (eqb n e.1) as (λ b. eqb n e.1 ≡ b → order_in m (cond (not b) (e ∷ without_waiting n es) (without_waiting n es)) ≡ cond (eqb m e.1) (Some e.0) (order_in m es)) [
      | true ↦ λ t. let apart : eqb m e.1 ≡ false = ne_eqb m e.1 (λ s. eqb-false m n h (s ∙ sym (eqb-true n e.1 t))) in rw apart (order_in_without m n es h)
      | false ↦ λ f. ap (λ v. cond (eqb m e.1) (Some e.0) v) (order_in_without m n es h)
    ]) refl

pub under_forget : (n : ℕ) (ts es : List (ScopeOrder × ℕ)) → AllUnder ts es → AllUnder (without_waiting n ts) (without_waiting n es)
under_forget n ts [] u = tt
under_forget n ts (e ∷ es) u =
    (elim (eqb n e.1) as (λ b. eqb n e.1 ≡ b → AllUnder (without_waiting n ts) (cond (not b) (e ∷ without_waiting n es) (without_waiting n es))) [
      | true ↦ λ _. under_forget n ts es u.1
      | false ↦ λ f. (order_in_without e.1 n ts (ne_eqb e.1 n (λ s. eqb-false n e.1 f (sym s))) ∙ u.0, under_forget n ts es u.1)
    ]) refl

pub waits_without : (q n : ℕ) (es : List (ScopeOrder × ℕ)) → waits q (without_waiting n es) ≡ cond (eqb q n) false (waits q es)
waits_without q n [] = elim (eqb q n) as (λ b. false ≡ cond b false false) [ true ↦ refl | false ↦ refl ]
waits_without q n (e ∷ es) =
    (elim (eqb n e.1) as (λ b. eqb n e.1 ≡ b → waits q (cond (not b) (e ∷ without_waiting n es) (without_waiting n es)) ≡ cond (eqb q n) false (eqb q e.1 || waits q es)) [
      | true ↦ λ t. waits_without q n es ∙ same_number q n e.1 (waits q es) (eqb-true n e.1 t)
      | false ↦ λ f. ap (λ b. eqb q e.1 || b) (waits_without q n es) ∙ other_number (eqb q e.1) (eqb q n) (waits q es) (λ a b. eqb-false n e.1 f (sym (eqb-true q n b) ∙ eqb-true q e.1 a))
    ]) refl where
      same_number : (q n m : ℕ) (w : Bool) → n ≡ m → cond (eqb q n) false w ≡ cond (eqb q n) false (eqb q m || w)
      same_number q n m w s = subst (λ k. cond (eqb q n) false w ≡ cond (eqb q n) false (eqb q k || w)) s (elim (eqb q n) as (λ b. cond b false w ≡ cond b false (b || w)) [ true ↦ refl | false ↦ refl ])

      other_number : (a b w : Bool) → (a ≡ true → b ≡ true → ⊥) → (a || cond b false w) ≡ cond b false (a || w)
      other_number true true w h = absurd (h refl refl)
      other_number true false w h = refl
      other_number false true w h = refl
      other_number false false w h = refl

-- ---- the members
members_grow : (n : ℕ) (o : ScopeOrder) (ms ms' : List ℕ) (ts : List (ScopeOrder × ℕ)) → HasMembers ms ts → Joins n ms ms' → HasMembers ms' (with_last o n ts)
members_grow n o ms ms' ts h j q = j q ∙ ap (λ b. eqb q n || b) (h q) ∙ sym (waits_with_last q n o ts)

members_shrink : (n : ℕ) (ms ms' : List ℕ) (ts : List (ScopeOrder × ℕ)) → HasMembers ms ts → Leaves n ms ms' → HasMembers ms' (without_waiting n ts)
members_shrink n ms ms' ts h l q = l q ∙ ap (λ b. cond (eqb q n) false b) (h q) ∙ sym (waits_without q n ts)

-- ---- the three lines
pub lines_ready : (entered ready posted new : Row) → AreLines entered ready posted → new.members ≡ ready.members → AllUnder entered.waiting new.waiting → AreLines entered new posted
lines_ready entered ready posted new l m u = record {
  entered_members = l.entered_members;
  ready_members = λ q. ap (has_number q) m ∙ l.ready_members q;
  posted_members = l.posted_members;
  entered_under = l.entered_under;
  ready_under = u;
  posted_under = l.posted_under;
}

pub lines_posted : (entered ready posted new : Row) → AreLines entered ready posted → new.members ≡ posted.members → AllUnder entered.waiting new.waiting → AreLines entered ready new
lines_posted entered ready posted new l m u = record {
  entered_members = l.entered_members;
  ready_members = l.ready_members;
  posted_members = λ q. ap (has_number q) m ∙ l.posted_members q;
  entered_under = l.entered_under;
  ready_under = l.ready_under;
  posted_under = u;
}

pub lines_enter : (n : ℕ) (o : ScopeOrder) (e r p e' r' p' : Row) → AreLines e r p → waits n e.waiting ≡ false
    → Joins n e.members e'.members → Joins n r.members r'.members → Joins n p.members p'.members
    → e'.waiting ≡ with_last o n e.waiting → r'.waiting ≡ r.waiting → p'.waiting ≡ p.waiting → AreLines e' r' p'
lines_enter n o e r p e' r' p' l absent je jr jp we wr wp = record {
  entered_members = rw we (members_grow n o e.members e'.members e.waiting l.entered_members je);
  ready_members = rw we (members_grow n o r.members r'.members e.waiting l.ready_members jr);
  posted_members = rw we (members_grow n o p.members p'.members e.waiting l.posted_members jp);
  entered_under = rw we (own_grow n o e.waiting absent l.entered_under);
  ready_under = rw (we, wr) (under_grow n o e.waiting r.waiting absent l.ready_under);
  posted_under = rw (we, wp) (under_grow n o e.waiting p.waiting absent l.posted_under);
}

pub lines_forget : (n : ℕ) (e r p e' r' p' : Row) → AreLines e r p
    → Leaves n e.members e'.members → Leaves n r.members r'.members → Leaves n p.members p'.members
    → e'.waiting ≡ without_waiting n e.waiting → r'.waiting ≡ without_waiting n r.waiting → p'.waiting ≡ without_waiting n p.waiting → AreLines e' r' p'
lines_forget n e r p e' r' p' l le lr lp we wr wp = record {
  entered_members = rw we (members_shrink n e.members e'.members e.waiting l.entered_members le);
  ready_members = rw we (members_shrink n r.members r'.members e.waiting l.ready_members lr);
  posted_members = rw we (members_shrink n p.members p'.members e.waiting l.posted_members lp);
  entered_under = rw we (under_forget n e.waiting e.waiting l.entered_under);
  ready_under = rw (we, wr) (under_forget n e.waiting r.waiting l.ready_under);
  posted_under = rw (we, wp) (under_forget n e.waiting p.waiting l.posted_under);
}

-- ---- all under an order
pub first_under_waits : (o : ScopeOrder) (n : ℕ) (es : List (ScopeOrder × ℕ)) → first_under o es ≡ Some n → stands_under n o es ≡ true
first_under_waits o n [] h = absurd cc
first_under_waits o n (e ∷ es) k =
    (elim (same_order o e.0) as (λ b. same_order o e.0 ≡ b → cond b (Some e.1) (first_under o es) ≡ Some n → ((eqb n e.1 && same_order o e.0) || stands_under n o es) ≡ true) [
      | true ↦ λ t h. let number : e.1 ≡ n = cc in let same : eqb n e.1 ≡ true = eq-eqb n e.1 (sym number) in rw (t, same) refl
      | false ↦ λ f h. or_right _ _ (first_under_waits o n es h)
    ]) refl k

none_from_under : (o p : ScopeOrder) (n : ℕ) (ts : List (ScopeOrder × ℕ)) → first_under o ts ≡ None → order_in n ts ≡ Some p → same_order o p ≡ false
none_from_under o p n [] h i = absurd cc
none_from_under o p n (e ∷ es) h i =
    (elim (same_order o e.0) as (λ b. same_order o e.0 ≡ b → cond b (Some e.1) (first_under o es) ≡ None → same_order o p ≡ false) [
      | true ↦ λ t k. absurd cc
      | false ↦ λ f k.
          (elim (eqb n e.1) as (λ b. cond b (Some e.0) (order_in n es) ≡ Some p → same_order o p ≡ false) [
            | true ↦ λ j. let is : e.0 ≡ p = cc in subst (λ r. same_order o r ≡ false) is f
            | false ↦ λ j. none_from_under o p n es k j
          ]) i
    ]) refl h

pub none_is_under : (o : ScopeOrder) (ts es : List (ScopeOrder × ℕ)) → first_under o ts ≡ None → AllUnder ts es → without_under o es ≡ es
none_is_under o ts [] h u = refl
none_is_under o ts (e ∷ es) h u = rw (none_from_under o e.0 e.1 ts h u.0) (ap (λ v. e ∷ v) (none_is_under o ts es h u.1))

pub without_step : (o : ScopeOrder) (n : ℕ) (ts es : List (ScopeOrder × ℕ)) → order_in n ts ≡ Some o → AllUnder ts es → without_under o (without_waiting n es) ≡ without_under o es
without_step o n ts [] h u = refl
without_step o n ts (e ∷ es) h u =
    (elim (eqb n e.1) as (λ b. eqb n e.1 ≡ b → without_under o (cond (not b) (e ∷ without_waiting n es) (without_waiting n es)) ≡ without_under o (e ∷ es)) [
      | true ↦ λ t.
          let at : Some o ≡ Some e.0 = sym h ∙ ap (λ m. order_in m ts) (eqb-true n e.1 t) ∙ u.0 in
          let is : o ≡ e.0 = cc in
          let same : same_order o e.0 ≡ true = subst (λ p. same_order o p ≡ true) is (same_order_itself o) in
          rw same (without_step o n ts es h u.1)
      | false ↦ λ f. ap (λ v. cond (not (same_order o e.0)) (e ∷ v) v) (without_step o n ts es h u.1)
    ]) refl where
      same_order_itself : (o : ScopeOrder) → same_order o o ≡ true
      same_order_itself o = rw (eq-eqb o.height o.height refl, eq-eqb o.id.0 o.id.0 refl) refl

shorter_filter : (p : ScopeOrder × ℕ → Bool) (es : List (ScopeOrder × ℕ)) → length (filter p es) < suc (length es)
shorter_filter p [] = omega arith
shorter_filter p (e ∷ es) = elim (p e) as (λ b. length (cond b (e ∷ filter p es) (filter p es)) < suc (suc (length es))) [ true ↦ omega (arith, shorter_filter p es) | false ↦ omega (arith, shorter_filter p es) ]

pub fewer : (n : ℕ) (es : List (ScopeOrder × ℕ)) → waits n es ≡ true → length (without_waiting n es) < length es
fewer n [] h = absurd (both_ways false refl h)
fewer n (e ∷ es) h =
    (elim (eqb n e.1) as (λ b. eqb n e.1 ≡ b → length (cond (not b) (e ∷ without_waiting n es) (without_waiting n es)) < suc (length es)) [
      | true ↦ λ t. shorter_filter (λ e. not (eqb n e.1)) es
      | false ↦ λ f. let l : waits n es ≡ true = ⊎_elim (λ (i : eqb n e.1 ≡ true). absurd (both_ways _ f i)) (λ (l : waits n es ≡ true). l) (or_cases (eqb n e.1) (waits n es) h) in omega (arith, fewer n es l)
    ]) refl
