-- A state owes something exactly where something comes up, or would after a look, or a batch of effects is left.
use Rattle.std.proofs.Common.{ℕ, ◌+◌, Bool, true, false, ◌||◌, List, [], ◌∷◌, ◌++◌, ◌≡◌, refl, sym, ap, ◌∙◌, subst, arith}
use Rattle.std.specs.Prelude.{nat_eq, Option, Some, None, is_some, if◌then◌else◌}
use Rattle.rt_lemmas.proofs.Bools.{or_none as or_false, or_all as or_true}
use Rattle.rt_model.specs.Lists.{at, has, join, drop_number}
use Rattle.rt_model.specs.Tree.{Types}
use Rattle.rt_model.specs.State.{Posted, Mark, Woken, TaskRow, Scope, State, is_live}
use Rattle.rt_model.specs.Next.{Work, RerunScope, PollTask, RunEffects, is_active, found, paused, drop_then, drops, look_on, look, looked, or_effects, owes}
use Rattle.rt_model.proofs.Maps.{by_test, pick_true, pick_false}
use Rattle.law_behavior.proofs.Coming.{found_turn, none_found, drops_done}
use Rattle.run_answers.specs.Owed.{sees_any, active_in, any_active, turns_up, comes_up, first_effects, is_owed}

-- one more among either of two
or_joins : (s a b t : Bool) → (s || (a || b)) || t ≡ (s || a) || (b || t)
or_joins true a b t = refl
or_joins false true b t = refl
or_joins false false b t = refl

sees_last : (xs : List ℕ) (n : ℕ) → sees_any (xs ++ n ∷ []) ≡ true
sees_last [] n = refl
sees_last (x ∷ xs) n = refl

sees_has : (xs : List ℕ) (n : ℕ) → has xs n ≡ true → sees_any xs ≡ true
sees_has [] n h = cc
sees_has (x ∷ xs) n h = refl

sees_join : (xs : List ℕ) (n : ℕ) → sees_any (join xs n) ≡ true
sees_join xs n =
    by_test (has xs n)
    (λ q. ap (λ (ys : List ℕ). sees_any ys) (pick_true xs (xs ++ n ∷ []) q) ∙ sees_has xs n q)
    (λ q. ap (λ (ys : List ℕ). sees_any ys) (pick_false xs (xs ++ n ∷ []) q) ∙ sees_last xs n)

module _ {K : Types} where
  module _ (tasks : List (ℕ × TaskRow K)) where
    active_last : (xs : List ℕ) (n : ℕ) → any_active tasks (xs ++ n ∷ []) ≡ any_active tasks xs || active_in tasks n
    active_last [] n = or_false (active_in tasks n)
    active_last (x ∷ xs) n = by (active_last xs n) (active_in tasks x)
      where
        by : any_active tasks (xs ++ n ∷ []) ≡ any_active tasks xs || active_in tasks n
            → (b : Bool) → b || any_active tasks (xs ++ n ∷ []) ≡ (b || any_active tasks xs) || active_in tasks n
        by on true = refl
        by on false = on

    active_has : (xs : List ℕ) (n : ℕ) → has xs n ≡ true → any_active tasks xs ≡ any_active tasks xs || active_in tasks n
    active_has [] n h = cc
    active_has (x ∷ xs) n h =
        by_test (nat_eq x n)
        (λ q. let same : x ≡ n = grind (arith, q) in
        subst (λ (y : ℕ). active_in tasks x || any_active tasks xs ≡ (active_in tasks x || any_active tasks xs) || active_in tasks y) same
        (twice (active_in tasks x) (any_active tasks xs)))
        (λ q. rest (active_in tasks x) (active_has xs n (sym (ap (λ (b : Bool). b || has xs n) q) ∙ h)))
      where
        twice : (a b : Bool) → a || b ≡ (a || b) || a
        twice true b = refl
        twice false true = refl
        twice false false = refl

        rest : (a : Bool) → any_active tasks xs ≡ any_active tasks xs || active_in tasks n
            → a || any_active tasks xs ≡ (a || any_active tasks xs) || active_in tasks n
        rest true e = refl
        rest false e = e

    active_join : (xs : List ℕ) (n : ℕ) → any_active tasks (join xs n) ≡ any_active tasks xs || active_in tasks n
    active_join xs n =
        by_test (has xs n)
        (λ q. ap (λ (ys : List ℕ). any_active tasks ys) (pick_true xs (xs ++ n ∷ []) q) ∙ active_has xs n q)
        (λ q. ap (λ (ys : List ℕ). any_active tasks ys) (pick_false xs (xs ++ n ∷ []) q) ∙ active_last xs n)

    -- a task that isn't active goes
    active_drop : (xs : List ℕ) (t : ℕ) → active_in tasks t ≡ false → any_active tasks (drop_number xs t) ≡ any_active tasks xs
    active_drop [] t h = refl
    active_drop (x ∷ xs) t h =
        by_test (nat_eq x t)
        (λ q. let same : t ≡ x = grind (arith, q) in
        ap (λ (ys : List ℕ). any_active tasks ys) (pick_true (drop_number xs t) (x ∷ drop_number xs t) q)
        ∙ active_drop xs t h
        ∙ ap (λ (b : Bool). b || any_active tasks xs) (sym (subst (λ (y : ℕ). active_in tasks y ≡ false) same h)))
        (λ q. ap (λ (ys : List ℕ). any_active tasks ys) (pick_false (drop_number xs t) (x ∷ drop_number xs t) q)
        ∙ ap (λ (b : Bool). active_in tasks x || b) (active_drop xs t h))

    active_there : (front back : List ℕ) (t : ℕ) → active_in tasks t ≡ true → any_active tasks (front ++ t ∷ back) ≡ true
    active_there [] back t h = ap (λ (b : Bool). b || any_active tasks back) h
    active_there (x ∷ front) back t h =
        ap (λ (b : Bool). active_in tasks x || b) (active_there front back t h) ∙ or_true (active_in tasks x)

  -- the drops change nothing but what is queued, and leave what comes up

  -- the task that comes up paused isn't active
  paused_inactive : (w : State K) (o : Option Work) (t : ℕ) → paused w o ≡ Some t → active_in w.tasks t ≡ false
  paused_inactive w None t h = cc
  paused_inactive w (Some (RerunScope s)) t h = cc
  paused_inactive w (Some (RunEffects s)) t h = cc
  paused_inactive w (Some (PollTask u)) t h =
      by_test (is_active w u)
      (λ q. let absurdity : None ≡ Some t = sym (pick_true None (Some u) q) ∙ h in cc)
      (λ q. let same : Some u ≡ Some t = sym (pick_false None (Some u) q) ∙ h in
      let one : u ≡ t = cc in
      subst (λ (x : ℕ). active_in w.tasks x ≡ false) one q)

  record Dropped (w v : State K) : Type 0 where
    comes : comes_up v ≡ comes_up w
    posted : v.posted ≡ w.posted
    scopes : v.scopes ≡ w.scopes
    tasks : v.tasks ≡ w.tasks

  dropped : (qs : List ℕ) (w : State K) → Dropped w (drops qs w)
  dropped [] w = record { comes = refl; posted = refl; scopes = refl; tasks = refl }
  dropped (q ∷ qs) w = by (λ v. dropped qs v) (paused w (found w)) refl
    where
      by : ((v : State K) → Dropped v (drops qs v)) → (o : Option ℕ) → paused w (found w) ≡ o → Dropped w (drop_then (λ v. drops qs v) w o)
      by on None e = record { comes = refl; posted = refl; scopes = refl; tasks = refl }
      by on (Some t) e =
          let d = on (record w { queued = drop_number w.queued t }) in
          record {
            comes =
                d.comes
                ∙ ap (λ (b : Bool). sees_any w.seen || b) (active_drop w.tasks w.queued t (paused_inactive w (found w) t e));
            posted = d.posted;
            scopes = d.scopes;
            tasks = d.tasks;
          }

  -- where what comes up isn't paused, it is found exactly where it comes up
  found_comes : (v : State K) (o : Option Work) → found v ≡ o → paused v o ≡ None → is_some o ≡ comes_up v
  found_comes v None e still =
      let none = none_found v e in
      sym (ap (λ (b : Bool). b || any_active v.tasks v.queued) (ap (λ (xs : List ℕ). sees_any xs) none.0)
      ∙ ap (λ (xs : List ℕ). any_active v.tasks xs) none.1)
  found_comes v (Some (RerunScope s)) e still =
      let f = (found_turn v (RerunScope s) e).first in
      sym (ap (λ (b : Bool). b || any_active v.tasks v.queued) (ap (λ (xs : List ℕ). sees_any xs) f.stands ∙ sees_in f.front f.back s))
    where
      sees_in : (front back : List ℕ) (n : ℕ) → sees_any (front ++ n ∷ back) ≡ true
      sees_in [] back n = refl
      sees_in (x ∷ front) back n = refl
  found_comes v (Some (RunEffects s)) e still = absurd (found_turn v (RunEffects s) e)
  found_comes v (Some (PollTask t)) e still =
      let f = (found_turn v (PollTask t) e).0 in
      let active : active_in v.tasks t ≡ true =
      by_test (is_active v t) (λ q. q) (λ q. let absurdity : Some t ≡ None = sym (pick_false None (Some t) q) ∙ still in cc) in
      sym (ap (λ (b : Bool). sees_any v.seen || b)
      (ap (λ (xs : List ℕ). any_active v.tasks xs) f.stands ∙ active_there v.tasks f.front f.back t active)
      ∙ or_true (sees_any v.seen))

  pub finds_is : (w : State K) → is_some (found (drops w.queued w)) ≡ comes_up w
  finds_is w =
      let v : State K = drops w.queued w in
      found_comes v (found v) refl (drops_done w.queued w (omega arith)) ∙ (dropped w.queued w).comes

  -- a look: what comes up after it

  pub inactive_gone : (tasks : List (ℕ × TaskRow K)) (t : ℕ) → is_some (at tasks t) ≡ false → active_in tasks t ≡ false
  inactive_gone tasks t h = by (at tasks t) h
    where
      by : (o : Option (TaskRow K)) → is_some o ≡ false → (elim o as (λ z. Bool) [ None ↦ false | Some x ↦ x.active ]) ≡ false
      by None h = refl
      by (Some x) h = cc

  record Seen (ps : List Posted) (w v : State K) : Type 0 where
    comes : comes_up v ≡ comes_up w || turns_up w.scopes w.tasks ps
    scopes : v.scopes ≡ w.scopes
    tasks : v.tasks ≡ w.tasks

  looks : (ps : List Posted) (w : State K) → Seen ps w (look_on ps w)
  looks [] w = record { comes = sym (or_false (comes_up w)); scopes = refl; tasks = refl }
  looks (Mark s ∷ ps) w = by (λ v. looks ps v) (is_live w s) refl
    where
      by : ((v : State K) → Seen ps v (look_on ps v)) → (b : Bool) → is_live w s ≡ b
          → Seen (Mark s ∷ ps) w (look_on ps (if b then record w { seen = join w.seen s } else w))
      by on true e =
          let v : State K = record w { seen = join w.seen s } in
          let r = on v in
          record {
            comes =
                r.comes
                ∙ ap (λ (b : Bool). (b || any_active w.tasks w.queued) || turns_up w.scopes w.tasks ps) (sees_join w.seen s)
                ∙ sym (or_true (comes_up w))
                ∙ ap (λ (b : Bool). comes_up w || (b || turns_up w.scopes w.tasks ps)) (sym e);
            scopes = r.scopes;
            tasks = r.tasks;
          }
      by on false e =
          let r = on w in
          record {
            comes = r.comes ∙ ap (λ (b : Bool). comes_up w || (b || turns_up w.scopes w.tasks ps)) (sym e);
            scopes = r.scopes;
            tasks = r.tasks;
          }
  looks (Woken t ∷ ps) w = by (λ v. looks ps v) (is_some (at w.tasks t)) refl
    where
      by : ((v : State K) → Seen ps v (look_on ps v)) → (b : Bool) → is_some (at w.tasks t) ≡ b
          → Seen (Woken t ∷ ps) w (look_on ps (if b then record w { queued = join w.queued t } else w))
      by on true e =
          let v : State K = record w { queued = join w.queued t } in
          let r = on v in
          record {
            comes =
                r.comes
                ∙ ap (λ (b : Bool). (sees_any w.seen || b) || turns_up w.scopes w.tasks ps) (active_join w.tasks w.queued t)
                ∙ or_joins (sees_any w.seen) (any_active w.tasks w.queued) (active_in w.tasks t) (turns_up w.scopes w.tasks ps);
            scopes = r.scopes;
            tasks = r.tasks;
          }
      by on false e =
          let r = on w in
          record {
            comes =
                r.comes
                ∙ ap (λ (b : Bool). comes_up w || (b || turns_up w.scopes w.tasks ps)) (sym (inactive_gone w.tasks t e));
            scopes = r.scopes;
            tasks = r.tasks;
          }

  pub owes_is : (w : State K) → owes w ≡ is_owed w
  owes_is w = by (found v) refl
    where
      v : State K
      v = drops w.queued w

      d : Dropped w v
      d = dropped w.queued w

      u : State K
      u = look v

      r : State K
      r = drops u.queued u

      s : Seen v.posted (record v { posted = [] }) u
      s = looks v.posted (record v { posted = [] })

      k : Dropped u r
      k = dropped u.queued u

      later : Bool
      later = turns_up w.scopes w.tasks w.posted

      -- what comes up after the look
      after : is_some (found r) ≡ comes_up w || later
      after =
          finds_is u
          ∙ s.comes
          ∙ ap (λ (b : Bool). b || turns_up v.scopes v.tasks v.posted) d.comes
          ∙ ap (λ (xs : List (ℕ × Scope K)). comes_up w || turns_up xs v.tasks v.posted) d.scopes
          ∙ ap (λ (xs : List (ℕ × TaskRow K)). comes_up w || turns_up w.scopes xs v.posted) d.tasks
          ∙ ap (λ (ps : List Posted). comes_up w || turns_up w.scopes w.tasks ps) d.posted

      same : r.scopes ≡ w.scopes
      same = k.scopes ∙ s.scopes ∙ d.scopes

      left : (o : Option ℕ) → is_some (elim o as (λ z. Option Work) [ None ↦ None | Some x ↦ Some (RunEffects x) ]) ≡ is_some o
      left None = refl
      left (Some x) = refl

      looked_for : (o : Option Work) → comes_up w ≡ false → is_some o ≡ comes_up w || later
          → is_some (or_effects r o) ≡ comes_up w || (later || is_some (first_effects w.scopes))
      looked_for (Some x) none h =
          h ∙ ap (λ (b : Bool). b || later) none
          ∙ sym (first (is_some (first_effects w.scopes)) (h ∙ ap (λ (b : Bool). b || later) none))
          ∙ ap (λ (b : Bool). b || (later || is_some (first_effects w.scopes))) (sym none)
        where
          first : (b : Bool) → true ≡ later → later || b ≡ later
          first b e = ap (λ (c : Bool). c || b) (sym e) ∙ e
      looked_for None none h =
          left (first_effects r.scopes)
          ∙ ap (λ (xs : List (ℕ × Scope K)). is_some (first_effects xs)) same
          ∙ ap (λ (b : Bool). b || is_some (first_effects w.scopes)) (h ∙ ap (λ (b : Bool). b || later) none)
          ∙ ap (λ (b : Bool). b || (later || is_some (first_effects w.scopes))) (sym none)

      by : (o : Option Work) → found v ≡ o
          → is_some (or_effects (looked v o) (found (looked v o))) ≡ is_owed w
      by (Some x) e =
          let comes : true ≡ comes_up w = sym (ap (λ (z : Option Work). is_some z) e) ∙ finds_is w in
          ap (λ (z : Option Work). is_some (or_effects v z)) e
          ∙ ap (λ (b : Bool). b || (later || is_some (first_effects w.scopes))) comes
      by None e =
          let none : comes_up w ≡ false = sym (finds_is w) ∙ ap (λ (z : Option Work). is_some z) e in
          looked_for (found r) none after
