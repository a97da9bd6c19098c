-- The scopes' lists as orders, and the tasks' lists under entered scopes.
use Rattle.std.proofs.Common.{◌≡◌, ℕ, Bool, true, false, cond, not, ◌||◌, ◌&&◌, List, [], ◌∷◌, eqb, refl, ap, ◌∙◌, sym, subst, ⊎_elim, Some, None}
use Rattle.std.proofs.lemmas.Bool.{or_cases, or_right, or_left, and_parts, and_from, eqb-true, eq-eqb, ne_eqb, eqb-false, both_ways, false_from_ne_true}
use Rattle.std.specs.List.{filter}
use Rattle.rt_sched.specs.Order.{order_before, same_order}
use Rattle.rt_sched.specs.Lines.{waits, with_last, with_waiting, without_waiting, order_in, orders_of}
use Rattle.rt_sched.specs.Rosters.{Roster, AllUnder, stands_under, all_waiting, without_under}
use Rattle.rt_sched.specs.Pending.{AllTagged}
use Rattle.rt_sched.specs.Queues.{has_scope, has_order, with_order, with_scope, without_scope, all_seen, without_tasks_of}
use Rattle.rt_sched.specs.Kept.{AreKept, AllOfScopes}
use Rattle.rt_sched.specs.declared.order.ScopeOrder.{ScopeOrder}
use Rattle.rt_sched.proofs.PlaceLemmas.{same_order_is}
use Rattle.rt_sched.proofs.BatchLemmas.{tagged_with_last, tagged_filter}
use Rattle.rt_sched.proofs.RollLemmas.{order_in_with_last, order_in_without, own_grow, stands_order, under_forget}
use Rattle.rt_sched.proofs.Waits.{order_in_absent}

-- ---- the scopes' lists as orders
pub has_scope_waits : (n : ℕ) (es : List (ScopeOrder × ℕ)) → AllTagged es → has_scope n (orders_of es) ≡ waits n es
has_scope_waits n [] t = refl
has_scope_waits n (e ∷ es) t = rw t.0 (ap (λ b. eqb n e.0.id.0 || b) (has_scope_waits n es t.1))

order_cases : (b : Bool) (o : ScopeOrder) (n : ℕ) (e : ScopeOrder × ℕ) (es fs : List (ScopeOrder × ℕ)) (os : List ScopeOrder) → orders_of fs ≡ os
    → orders_of (cond b ((o, n) ∷ e ∷ es) (e ∷ fs)) ≡ cond b (o ∷ e.0 ∷ orders_of es) (e.0 ∷ os)
order_cases true o n e es fs os h = refl
order_cases false o n e es fs os h = ap (λ v. e.0 ∷ v) h

orders_with_last : (o : ScopeOrder) (n : ℕ) (es : List (ScopeOrder × ℕ)) → orders_of (with_last o n es) ≡ with_order o (orders_of es)
orders_with_last o n [] = refl
orders_with_last o n (e ∷ es) = order_cases (order_before o e.0) o n e es (with_last o n es) (with_order o (orders_of es)) (orders_with_last o n es)

orders_cond : (b : Bool) (es fs : List (ScopeOrder × ℕ)) → orders_of (cond b es fs) ≡ cond b (orders_of es) (orders_of fs)
orders_cond true es fs = refl
orders_cond false es fs = refl

pub orders_with_waiting : (o : ScopeOrder) (n : ℕ) (es : List (ScopeOrder × ℕ)) → n ≡ o.id.0 → AllTagged es → orders_of (with_waiting o n es) ≡ with_scope o (orders_of es)
orders_with_waiting o n es m t =
    let has : has_scope o.id.0 (orders_of es) ≡ waits n es = has_scope_waits o.id.0 es t ∙ ap (λ k. waits k es) (sym m) in
    orders_cond (waits n es) es (with_last o n es) ∙ rw (orders_with_last o n es, has) refl

pub orders_without : (n : ℕ) (es : List (ScopeOrder × ℕ)) → AllTagged es → orders_of (without_waiting n es) ≡ without_scope n (orders_of es)
orders_without n [] t = refl
orders_without n (e ∷ es) t =
    let same : eqb n e.1 ≡ eqb n e.0.id.0 = ap (eqb n) t.0 in
    rw same (orders_cond (not (eqb n e.0.id.0)) (e ∷ without_waiting n es) (without_waiting n es) ∙ rw (orders_without n es t.1) refl)

pub tagged_with_waiting : (o : ScopeOrder) (n : ℕ) (es : List (ScopeOrder × ℕ)) → n ≡ o.id.0 → AllTagged es → AllTagged (with_waiting o n es)
tagged_with_waiting o n es m t = elim (waits n es) as (λ b. AllTagged (cond b es (with_last o n es))) [ true ↦ t | false ↦ tagged_with_last o n es m t ]

pub tagged_without : (n : ℕ) (es : List (ScopeOrder × ℕ)) → AllTagged es → AllTagged (without_waiting n es)
tagged_without n es t = tagged_filter (λ e. not (eqb n e.1)) es t

pub tagged_all : (ps es : List (ScopeOrder × ℕ)) → AllTagged ps → AllTagged es → AllTagged (all_waiting ps es)
tagged_all [] es s t = t
tagged_all (p ∷ ps) es s t = tagged_all ps (with_waiting p.0 p.1 es) s.1 (tagged_with_waiting p.0 p.1 es s.0 t)

pub orders_all : (ps es : List (ScopeOrder × ℕ)) → AllTagged ps → AllTagged es → orders_of (all_waiting ps es) ≡ all_seen (orders_of ps) (orders_of es)
orders_all [] es s t = refl
orders_all (p ∷ ps) es s t =
    orders_all ps (with_waiting p.0 p.1 es) s.1 (tagged_with_waiting p.0 p.1 es s.0 t) ∙ ap (all_seen (orders_of ps)) (orders_with_waiting p.0 p.1 es s.0 t)

-- ---- an entered scope
pub same_id : (o p : ScopeOrder) → same_order o p ≡ true → eqb o.id.0 p.id.0 ≡ true
same_id o p h = (and_parts (eqb o.height p.height) (eqb o.id.0 p.id.0) h).1

pub has_order_stands : (o : ScopeOrder) (es : List (ScopeOrder × ℕ)) → AllTagged es → has_order o (orders_of es) ≡ true → stands_under o.id.0 o es ≡ true
has_order_stands o [] t h = h
has_order_stands o (e ∷ es) t h =
    ⊎_elim (λ (i : same_order o e.0 ≡ true).
    let number : eqb o.id.0 e.1 ≡ true = ap (eqb o.id.0) t.0 ∙ same_id o e.0 i in
    or_left _ _ (and_from (eqb o.id.0 e.1) (same_order o e.0) number i))
    (λ (l : has_order o (orders_of es) ≡ true). or_right _ _ (has_order_stands o es t.1 l)) (or_cases (same_order o e.0) (has_order o (orders_of es)) h)

-- an entered scope stands by its own number
pub stands_has_order : (o : ScopeOrder) (es : List (ScopeOrder × ℕ)) → AllTagged es → stands_under o.id.0 o es ≡ has_order o (orders_of es)
stands_has_order o [] t = refl
stands_has_order o (e ∷ es) t =
    (elim (same_order o e.0) as (λ b. same_order o e.0 ≡ b → ((eqb o.id.0 e.1 && b) || stands_under o.id.0 o es) ≡ (b || has_order o (orders_of es))) [
      | true ↦ λ i. let number : eqb o.id.0 e.1 ≡ true = ap (eqb o.id.0) t.0 ∙ same_id o e.0 i in rw number refl
      | false ↦ λ i. or_left_false (eqb o.id.0 e.1) (stands_under o.id.0 o es) ∙ stands_has_order o es t.1
    ]) refl where
      or_left_false : (a b : Bool) → ((a && false) || b) ≡ b
      or_left_false true b = refl
      or_left_false false b = refl

pub entered_order : (o : ScopeOrder) (es : List (ScopeOrder × ℕ)) → AllTagged es → AllUnder es es → has_order o (orders_of es) ≡ true → order_in o.id.0 es ≡ Some o
entered_order o es t u h = stands_order o.id.0 o es es u (has_order_stands o es t h)

pub order_in_tagged : (n : ℕ) (o : ScopeOrder) (es : List (ScopeOrder × ℕ)) → AllTagged es → order_in n es ≡ Some o → o.id.0 ≡ n
order_in_tagged n o [] t h = absurd cc
order_in_tagged n o (e ∷ es) t k =
    (elim (eqb n e.1) as (λ b. eqb n e.1 ≡ b → cond b (Some e.0) (order_in n es) ≡ Some o → o.id.0 ≡ n) [
      | true ↦ λ i h. let is : e.0 ≡ o = cc in sym (ap (λ (p : ScopeOrder). p.id.0) is) ∙ sym t.0 ∙ sym (eqb-true n e.1 i)
      | false ↦ λ i h. order_in_tagged n o es t.1 h
    ]) refl k

-- ---- the tasks' lists under entered scopes
of_scopes_with_last : (n : ℕ) (o : ScopeOrder) (ss es : List (ScopeOrder × ℕ)) → AllOfScopes ss es → order_in o.id.0 ss ≡ Some o → AllOfScopes ss (with_last o n es)
of_scopes_with_last n o ss [] s h = (h, tt)
of_scopes_with_last n o ss (e ∷ es) s h =
    elim (order_before o e.0) as (λ b. AllOfScopes ss (cond b ((o, n) ∷ e ∷ es) (e ∷ with_last o n es))) [ true ↦ (h, s) | false ↦ (s.0, of_scopes_with_last n o ss es s.1 h) ]

pub of_scopes_with_waiting : (n : ℕ) (o : ScopeOrder) (ss es : List (ScopeOrder × ℕ)) → AllOfScopes ss es → order_in o.id.0 ss ≡ Some o → AllOfScopes ss (with_waiting o n es)
of_scopes_with_waiting n o ss es s h = elim (waits n es) as (λ b. AllOfScopes ss (cond b es (with_last o n es))) [ true ↦ s | false ↦ of_scopes_with_last n o ss es s h ]

of_scopes_filter : (p : ScopeOrder × ℕ → Bool) (ss es : List (ScopeOrder × ℕ)) → AllOfScopes ss es → AllOfScopes ss (filter p es)
of_scopes_filter p ss [] s = tt
of_scopes_filter p ss (e ∷ es) s = elim (p e) as (λ b. AllOfScopes ss (cond b (e ∷ filter p es) (filter p es))) [ true ↦ (s.0, of_scopes_filter p ss es s.1) | false ↦ of_scopes_filter p ss es s.1 ]

pub of_scopes_without : (n : ℕ) (ss es : List (ScopeOrder × ℕ)) → AllOfScopes ss es → AllOfScopes ss (without_waiting n es)
of_scopes_without n ss es s = of_scopes_filter (λ e. not (eqb n e.1)) ss es s

pub of_scopes_all : (ss ps es : List (ScopeOrder × ℕ)) → AllOfScopes ss ps → AllOfScopes ss es → AllOfScopes ss (all_waiting ps es)
of_scopes_all ss [] es p s = s
of_scopes_all ss (q ∷ ps) es p s = of_scopes_all ss ps (with_waiting q.0 q.1 es) p.1 (of_scopes_with_waiting q.1 q.0 ss es s p.0)

of_scopes_grow : (n : ℕ) (o : ScopeOrder) (ss es : List (ScopeOrder × ℕ)) → waits n ss ≡ false → AllOfScopes ss es → AllOfScopes (with_last o n ss) es
of_scopes_grow n o ss [] h s = tt
of_scopes_grow n o ss (e ∷ es) h s =
    let apart : eqb e.0.id.0 n ≡ false = ne_eqb e.0.id.0 n (λ i. let none : None ≡ Some e.0 = sym (order_in_absent n ss h) ∙ ap (λ m. order_in m ss) (sym i) ∙ s.0 in absurd cc) in
    (order_in_with_last e.0.id.0 n o ss h ∙ rw apart s.0, of_scopes_grow n o ss es h s.1)

pub of_scopes_entered : (n : ℕ) (o : ScopeOrder) (ss es : List (ScopeOrder × ℕ)) → AllOfScopes ss es → AllOfScopes (with_waiting o n ss) es
of_scopes_entered n o ss es s =
    (elim (waits n ss) as (λ b. waits n ss ≡ b → AllOfScopes (cond b ss (with_last o n ss)) es) [ true ↦ λ _. s | false ↦ λ h. of_scopes_grow n o ss es h s ]) refl

pub under_entered : (n : ℕ) (o : ScopeOrder) (ss : List (ScopeOrder × ℕ)) → AllUnder ss ss → AllUnder (with_waiting o n ss) (with_waiting o n ss)
under_entered n o ss u =
    (elim (waits n ss) as (λ b. waits n ss ≡ b → AllUnder (cond b ss (with_last o n ss)) (cond b ss (with_last o n ss))) [ true ↦ λ _. u | false ↦ λ h. own_grow n o ss h u ]) refl

pub stands_of_scopes : (n : ℕ) (o : ScopeOrder) (ss es : List (ScopeOrder × ℕ)) → AllOfScopes ss es → stands_under n o es ≡ true → order_in o.id.0 ss ≡ Some o
stands_of_scopes n o ss [] s h = absurd (both_ways false refl h)
stands_of_scopes n o ss (e ∷ es) s h =
    ⊎_elim (λ (i : (eqb n e.1 && same_order o e.0) ≡ true).
    let is : o ≡ e.0 = same_order_is o e.0 (and_parts (eqb n e.1) (same_order o e.0) i).1 in subst (λ (p : ScopeOrder). order_in p.id.0 ss ≡ Some p) (sym is) s.0)
    (λ (l : stands_under n o es ≡ true). stands_of_scopes n o ss es s.1 l) (or_cases (eqb n e.1 && same_order o e.0) (stands_under n o es) h)

-- ---- a scope is forgotten
pub of_scopes_forget : (n : ℕ) (ss es : List (ScopeOrder × ℕ)) → AllOfScopes ss es → AllOfScopes (without_waiting n ss) (without_tasks_of n es)
of_scopes_forget n ss [] s = tt
of_scopes_forget n ss (e ∷ es) s =
    (elim (eqb n e.0.id.0) as (λ b. eqb n e.0.id.0 ≡ b → AllOfScopes (without_waiting n ss) (cond (not b) (e ∷ without_tasks_of n es) (without_tasks_of n es))) [
      | true ↦ λ _. of_scopes_forget n ss es s.1
      | false ↦ λ f. (order_in_without e.0.id.0 n ss (ne_eqb e.0.id.0 n (λ i. eqb-false n e.0.id.0 f (sym i))) ∙ s.0, of_scopes_forget n ss es s.1)
    ]) refl

-- the tasks under the order of an entered scope are those of the scope
pub tasks_under : (n : ℕ) (o : ScopeOrder) (ss es : List (ScopeOrder × ℕ)) → AllTagged ss → order_in n ss ≡ Some o → AllOfScopes ss es → without_under o es ≡ without_tasks_of n es
tasks_under n o ss [] t h s = refl
tasks_under n o ss (e ∷ es) t h s =
    let id = order_in_tagged n o ss t h in
    (elim (eqb n e.0.id.0) as (λ b. eqb n e.0.id.0 ≡ b → cond (not (same_order o e.0)) (e ∷ without_under o es) (without_under o es) ≡ cond (not b) (e ∷ without_tasks_of n es) (without_tasks_of n es)) [
      | true ↦ λ i.
          let at : Some o ≡ Some e.0 = sym h ∙ ap (λ m. order_in m ss) (eqb-true n e.0.id.0 i) ∙ s.0 in
          let is : o ≡ e.0 = cc in
          let same : same_order o e.0 ≡ true = subst (λ p. same_order o p ≡ true) is (same_order_itself o) in
          rw same (tasks_under n o ss es t h s.1)
      | false ↦ λ i.
          let other : same_order o e.0 ≡ false = false_from_ne_true (same_order o e.0) (λ k. both_ways _ i (ap (λ m. eqb m e.0.id.0) (sym id) ∙ same_id o e.0 k)) in
          rw other (ap (λ v. e ∷ v) (tasks_under n o ss es t h s.1))
    ]) refl where
      same_order_itself : (o : ScopeOrder) → same_order o o ≡ true
      same_order_itself o = rw (eq-eqb o.height o.height refl, eq-eqb o.id.0 o.id.0 refl) refl

-- a scope that isn't entered has no tasks
pub no_tasks : (n : ℕ) (ss es : List (ScopeOrder × ℕ)) → order_in n ss ≡ None → AllOfScopes ss es → without_tasks_of n es ≡ es
no_tasks n ss [] h s = refl
no_tasks n ss (e ∷ es) h s =
    let apart : eqb n e.0.id.0 ≡ false = ne_eqb n e.0.id.0 (λ i. let none : None ≡ Some e.0 = sym h ∙ ap (λ m. order_in m ss) i ∙ s.0 in absurd cc) in
    rw apart (ap (λ v. e ∷ v) (no_tasks n ss es h s.1))

-- ---- all that is kept
pub kept_scopes : (s t s' : Roster) → AreKept s t → s'.entered ≡ s.entered → AllTagged s'.ready → AllTagged s'.posted → AreKept s' t
kept_scopes s t s' k e r p = record {
  entered_tagged = rw e k.entered_tagged;
  ready_tagged = r;
  posted_tagged = p;
  scopes_under = rw e k.scopes_under;
  of_scopes = rw e k.of_scopes;
  ready_of_scopes = rw e k.ready_of_scopes;
  posted_of_scopes = rw e k.posted_of_scopes;
}

pub kept_tasks : (s t t' : Roster) → AreKept s t → AllOfScopes s.entered t'.entered → AllOfScopes s.entered t'.ready → AllOfScopes s.entered t'.posted → AreKept s t'
kept_tasks s t t' k e r p = record {
  entered_tagged = k.entered_tagged;
  ready_tagged = k.ready_tagged;
  posted_tagged = k.posted_tagged;
  scopes_under = k.scopes_under;
  of_scopes = e;
  ready_of_scopes = r;
  posted_of_scopes = p;
}

pub kept_entered : (s t s' : Roster) (n : ℕ) (o : ScopeOrder) → AreKept s t → n ≡ o.id.0 → s' ≡ record s { entered = with_waiting o n s.entered } → AreKept s' t
kept_entered s t s' n o k m e = rw e (record {
  entered_tagged = tagged_with_waiting o n s.entered m k.entered_tagged;
  ready_tagged = k.ready_tagged;
  posted_tagged = k.posted_tagged;
  scopes_under = under_entered n o s.entered k.scopes_under;
  of_scopes = of_scopes_entered n o s.entered t.entered k.of_scopes;
  ready_of_scopes = of_scopes_entered n o s.entered t.ready k.ready_of_scopes;
  posted_of_scopes = of_scopes_entered n o s.entered t.posted k.posted_of_scopes;
})

pub kept_forgotten : (s t s' t' : Roster) (n : ℕ) → AreKept s t
    → s' ≡ record { entered = without_waiting n s.entered; ready = without_waiting n s.ready; posted = without_waiting n s.posted }
    → t' ≡ record { entered = without_tasks_of n t.entered; ready = without_tasks_of n t.ready; posted = without_tasks_of n t.posted } → AreKept s' t'
kept_forgotten s t s' t' n k e f = rw (e, f) (record {
  entered_tagged = tagged_without n s.entered k.entered_tagged;
  ready_tagged = tagged_without n s.ready k.ready_tagged;
  posted_tagged = tagged_without n s.posted k.posted_tagged;
  scopes_under = under_forget n s.entered s.entered k.scopes_under;
  of_scopes = of_scopes_forget n s.entered t.entered k.of_scopes;
  ready_of_scopes = of_scopes_forget n s.entered t.ready k.ready_of_scopes;
  posted_of_scopes = of_scopes_forget n s.entered t.posted k.posted_of_scopes;
})

pub no_orders : (es : List (ScopeOrder × ℕ)) → orders_of es ≡ [] → es ≡ []
no_orders [] e = refl
no_orders (e ∷ es) h = absurd cc
