-- What the loop of a call needs: its log grows, and its test takes nothing away.
use Rattle.std.proofs.Common.{ℕ, zero, suc, ◌+◌, ◌&&◌, ◌≤◌, Bool, true, false, List, [], ◌∷◌, ◌≡◌, refl, sym, ap, ◌∙◌, subst, arith, length}
use Rattle.std.specs.Prelude.{Option, Some, None, is_some, if◌then◌else◌}
use Rattle.rt_model.specs.Tree.{Types}
use Rattle.rt_model.specs.World.{Application}
use Rattle.rt_model.specs.State.{Posted, Mark, Woken, TaskRow, State, is_live}
use Rattle.rt_model.specs.Lists.{at, join, drop_number}
use Rattle.rt_model.specs.Next.{Work, RerunScope, PollTask, RunEffects, chosen, first_task, first_seen, or_effects, found, paused, drop_then, drops, look_on, look, looked, at_rest}
use Rattle.rt_model.specs.Replay.{Machine, replay_on}
use Rattle.law_behavior.specs.Comes.{IsFirst, task_before, ComesToRerun}
use Rattle.law_behavior.proofs.Firsts.{shorter}
use Rattle.law_behavior.proofs.Coming.{no_number, found_turn, paused_none, drops_done}
use Rattle.rt_model.specs.Rendering.{runs_suspended, may_poll, may_rerun, pass_over, passes, rendering_rest, tasks_passed, polling_rest, polling_next}
use Rattle.rt_model.proofs.Conjunctions.{and-left}
use Rattle.rt_model.proofs.Maps.{by_test, pick_true, pick_false}
use Rattle.law_headline.proofs.Reports.{one_machine}
use Rattle.law_behavior.specs.Doms.{Events, Renders, Settles, UnendedGrows, RestsAlike, PassedComesNext}
use Rattle.law_behavior.specs.Polls.{PolledComesNext}
use Rattle.law_behavior.proofs.Leading.{accepted_on, owing}

one_of : {K : Types} (u v : Machine K) → Some u ≡ Some v → u ≡ v
one_of u v h = cc

module _ {K : Types} (app : Application K) where
  pub unended_grows : UnendedGrows app
  unended_grows test m v [] e h u fails = (λ o. ap (λ (x : Machine K). test x.state) (one_machine m v h) ∙ fails o, λ z is. tt)
  unended_grows test m v (first ∷ log) e h u fails = (
    u.0,
    λ z is.
        let on = accepted_on app m v first log h in
        let same : z ≡ on.0 = one_of z on.0 (sym is ∙ on.1) in
        unended_grows test z v log e (ap (λ (x : Machine K). replay_on app (Some x) log) same ∙ on.2) (u.1 z is) fails,
  )

module _ {K : Types} where
  -- where nothing that comes up is paused nothing is dropped
  none_dropped : (qs : List ℕ) (w : State K) → paused w (found w) ≡ None → drops qs w ≡ w
  none_dropped [] w h = refl
  none_dropped (q ∷ qs) w h = ap (λ (o : Option ℕ). drop_then (λ v. drops qs v) w o) h

  thinned : (w : State K) → paused (drops w.queued w) (found (drops w.queued w)) ≡ None
  thinned w = let less : length w.queued ≤ length w.queued = omega arith in drops_done w.queued w less

  rest_thinned : (w : State K) → at_rest (drops w.queued w) ≡ at_rest w
  rest_thinned w =
      let v : State K = drops w.queued w in
      ap (λ (x : State K). looked x (found x)) (none_dropped v.queued v (thinned w))

  -- what the drops leave posted
  dropped_then : (go : State K → State K) (w : State K) (o : Option ℕ) → ((v : State K) → (go v).posted ≡ v.posted)
      → (drop_then go w o).posted ≡ w.posted
  dropped_then go w None h = refl
  dropped_then go w (Some t) h = h (record w { queued = drop_number w.queued t })

  pub drop_posted_is : (qs : List ℕ) (w : State K) → (drops qs w).posted ≡ w.posted
  drop_posted_is [] w = refl
  drop_posted_is (q ∷ qs) w = dropped_then (λ v. drops qs v) w (paused w (found w)) (λ v. drop_posted_is qs v)

  -- a look leaves nothing posted
  if_posted : (w x : State K) (b : Bool) → x.posted ≡ w.posted → (if b then x else w).posted ≡ w.posted
  if_posted w x true h = h
  if_posted w x false h = refl

  look_on_posted : (ps : List Posted) (w : State K) → (look_on ps w).posted ≡ w.posted
  look_on_posted [] w = refl
  look_on_posted (Mark s ∷ ps) w =
      look_on_posted ps (if is_live w s then record w { seen = join w.seen s } else w) ∙
      if_posted w (record w { seen = join w.seen s }) (is_live w s) refl
  look_on_posted (Woken t ∷ ps) w =
      look_on_posted ps (if is_some (at w.tasks t) then record w { queued = join w.queued t } else w) ∙
      if_posted w (record w { queued = join w.queued t }) (is_some (at w.tasks t)) refl

  pub look_posted : (w : State K) → (look w).posted ≡ []
  look_posted w = look_on_posted w.posted (record w { posted = [] })

  pub no_posted : (w : State K) → w.posted ≡ [] → look w ≡ w
  no_posted w h =
      let there : look w ≡ record w { posted = [] } = ap (λ (ps : List Posted). look_on ps (record w { posted = [] })) h in
      let back : record w { posted = [] } ≡ w = ap (λ (ps : List Posted). record w { posted = ps }) (sym h) in
      there ∙ back

  -- at rest nothing more is dropped or looked at
  looked_still : (u : State K) (o : Option Work) → u.posted ≡ [] → paused u (found u) ≡ None → looked u o ≡ u
  looked_still u (Some x) none still = refl
  looked_still u None none still = ap (λ (y : State K). drops y.queued y) (no_posted u none) ∙ none_dropped u.queued u still

  rest_at_once : (u : State K) → paused u (found u) ≡ None → at_rest u ≡ looked u (found u)
  rest_at_once u still = ap (λ (x : State K). looked x (found x)) (none_dropped u.queued u still)

  rest_looked : (v : State K) (o : Option Work) → found v ≡ o → paused v (found v) ≡ None → at_rest (looked v o) ≡ looked v o
  rest_looked v (Some x) e still = rest_at_once v still ∙ ap (λ (o : Option Work). looked v o) e
  rest_looked v None e still =
      let z : State K = look v in
      let u : State K = drops z.queued z in
      let less : length z.queued ≤ length z.queued = omega arith in
      let calm : paused u (found u) ≡ None = drops_done z.queued z less in
      let none : u.posted ≡ [] = drop_posted_is z.queued z ∙ look_on_posted v.posted (record v { posted = [] }) in
      rest_at_once u calm ∙ looked_still u (found u) none calm

  rest_again : (w : State K) → at_rest (at_rest w) ≡ at_rest w
  rest_again w = let v : State K = drops w.queued w in rest_looked v (found v) refl (thinned w)

seen_alike : {K : Types} (w : State K) (seen : List ℕ) → at_rest (elim seen as (λ z. State K) [ [] ↦ at_rest w | s ∷ ss ↦ w ]) ≡ at_rest w
seen_alike w [] = rest_again w
seen_alike w (s ∷ ss) = refl

pub rests_alike : {K : Types} → RestsAlike K
rests_alike Settles w h = (rest_again w, owing Settles w h)
rests_alike Renders w h = (rest_thinned w, owing Renders w h)
rests_alike Events w h = (seen_alike w w.seen, owing Events w h)

module _ {K : Types} where
  may_is_active : (o : Option (TaskRow K)) → (elim o as (λ z. Bool) [ None ↦ false | Some x ↦ x.active && runs_suspended x.kind ]) ≡ true
      → (elim o as (λ z. Bool) [ None ↦ false | Some x ↦ x.active ]) ≡ true
  may_is_active None h = h
  may_is_active (Some x) h = and-left x.active (runs_suspended x.kind) h

  still_as : (v : State K) (o : Option Work) → found v ≡ o → paused v o ≡ None → paused v (found v) ≡ None
  still_as v o e h = ap (λ (z : Option Work). paused v z) e ∙ h

  over_still : (go : State K → State K) (n : ℕ) (v : State K) (o : Option Work)
      → ((z : State K) → length z.seen + length z.queued ≤ n → paused (go z) (found (go z)) ≡ None)
      → found v ≡ o
      → length v.seen + length v.queued ≤ suc n
      → paused (pass_over go v o) (found (pass_over go v o)) ≡ None
  over_still go n v None h e low = still_as v None e refl
  over_still go n v (Some (RunEffects s)) h e low = still_as v (Some (RunEffects s)) e refl
  over_still go n v (Some (RerunScope s)) h e low =
      let z : State K = record v { seen = drop_number v.seen s; skipped = join v.skipped s } in
      let turn : ComesToRerun v s = found_turn v (RerunScope s) e in
      let f = turn.first in
      let less : length (drop_number v.seen s) + 1 ≤ length v.seen = subst (λ (xs : List ℕ). length (drop_number xs s) + 1 ≤ length xs)
      (sym f.stands) (shorter f.front f.back s) in
      let small : length z.seen + length z.queued ≤ n = omega (arith, less, low) in
      by_test (may_rerun v s)
      (λ q. subst (λ (x : State K). paused x (found x) ≡ None) (sym (pick_true v (go z) q)) (still_as v (Some (RerunScope s)) e refl))
      (λ q. subst (λ (x : State K). paused x (found x) ≡ None) (sym (pick_false v (go z) q)) (h z small))
  over_still go n v (Some (PollTask t)) h e low =
      let z : State K = record v { queued = drop_number v.queued t } in
      let f : IsFirst (λ a b. task_before v a b) t v.queued = (found_turn v (PollTask t) e).0 in
      let less : length (drop_number v.queued t) + 1 ≤ length v.queued = subst (λ (xs : List ℕ). length (drop_number xs t) + 1 ≤ length xs)
      (sym f.stands) (shorter f.front f.back t) in
      let small : length z.seen + length z.queued ≤ n = omega (arith, less, low) in
      by_test (may_poll v t)
      (
      λ q.
      subst (λ (x : State K). paused x (found x) ≡ None) (sym (pick_true v (go z) q))
      (still_as v (Some (PollTask t)) e (pick_true None (Some t) (may_is_active (at v.tasks t) q)))
      )
      (λ q. subst (λ (x : State K). paused x (found x) ≡ None) (sym (pick_false v (go z) q)) (h z small))

  passes_still : (n : ℕ) (v : State K) → length v.seen + length v.queued ≤ n → paused (passes n v) (found (passes n v)) ≡ None
  passes_still zero v low = let none : length v.queued ≤ 0 = omega (arith, low) in paused_none v (no_number v.queued none) (found v) refl
  passes_still (suc n) v low = over_still (λ z. passes n z) n v (found v) (λ z few. passes_still n z few) refl low

pub passed_comes_next : {K : Types} → PassedComesNext K
passed_comes_next w x h =
    let v = look w in
    let u = rendering_rest w in
    let low : length v.seen + length v.queued ≤ length v.seen + length v.queued = omega arith in
    let calm : paused u (found u) ≡ None = passes_still (length v.seen + length v.queued) v low in
    let rests : at_rest u ≡ u = rest_at_once u calm ∙ ap (λ (o : Option Work). looked u o) h in
    (rests, ap (λ (z : State _). or_effects z (found z)) rests ∙ ap (λ (o : Option Work). or_effects u o) h)

-- the same of a poll of suspended work, which goes on while no scope is seen

module _ {K : Types} where
  -- where no scope is seen none comes up
  none_up : {P : Type 0} (v : State K) (s : ℕ) → first_seen v ≡ None → found v ≡ Some (RerunScope s) → P
  none_up {P = P} v s unseen e = by (first_task v) (sym (ap (λ (o : Option ℕ). chosen v (first_task v) o) unseen) ∙ e)
    where
      by : (o : Option ℕ) → chosen v o None ≡ Some (RerunScope s) → P
      by None h = cc
      by (Some t) h = cc

  tasks_over : (go : State K → State K) (n : ℕ) (v : State K) (o : Option Work)
      → ((z : State K) → length z.queued ≤ n → first_seen (go z) ≡ None → paused (go z) (found (go z)) ≡ None)
      → found v ≡ o
      → first_seen v ≡ None
      → length v.queued ≤ suc n
      → first_seen (pass_over go v o) ≡ None
      → paused (pass_over go v o) (found (pass_over go v o)) ≡ None
  tasks_over go n v None h e unseen low none = still_as v None e refl
  tasks_over go n v (Some (RunEffects s)) h e unseen low none = still_as v (Some (RunEffects s)) e refl
  tasks_over go n v (Some (RerunScope s)) h e unseen low none = none_up v s unseen e
  tasks_over go n v (Some (PollTask t)) h e unseen low none =
      let z : State K = record v { queued = drop_number v.queued t } in
      let f : IsFirst (λ a b. task_before v a b) t v.queued = (found_turn v (PollTask t) e).0 in
      let less : length (drop_number v.queued t) + 1 ≤ length v.queued = subst (λ (xs : List ℕ). length (drop_number xs t) + 1 ≤ length xs)
      (sym f.stands) (shorter f.front f.back t) in
      let small : length z.queued ≤ n = omega (arith, less, low) in
      by_test (may_poll v t)
      (
      λ q.
      subst (λ (x : State K). paused x (found x) ≡ None) (sym (pick_true v (go z) q))
      (still_as v (Some (PollTask t)) e (pick_true None (Some t) (may_is_active (at v.tasks t) q)))
      )
      (
      λ q.
      subst (λ (x : State K). paused x (found x) ≡ None) (sym (pick_false v (go z) q))
      (h z small (sym (ap (λ (x : State K). first_seen x) (pick_false v (go z) q)) ∙ none))
      )

  tasks_still : (n : ℕ) (v : State K) → length v.queued ≤ n → first_seen (tasks_passed n v) ≡ None
      → paused (tasks_passed n v) (found (tasks_passed n v)) ≡ None
  tasks_still zero v low none = paused_none v (no_number v.queued low) (found v) refl
  tasks_still (suc n) v low none = by (λ z few unseen. tasks_still n z few unseen) (first_seen v) refl none
    where
      by : ((z : State K) → length z.queued ≤ n → first_seen (tasks_passed n z) ≡ None
          → paused (tasks_passed n z) (found (tasks_passed n z)) ≡ None)
          → (o : Option ℕ) → first_seen v ≡ o
          → first_seen (elim o as (λ z. State K) [ None ↦ pass_over (λ z. tasks_passed n z) v (found v) | Some s ↦ v ]) ≡ None
          → paused (elim o as (λ z. State K) [ None ↦ pass_over (λ z. tasks_passed n z) v (found v) | Some s ↦ v ])
          (found (elim o as (λ z. State K) [ None ↦ pass_over (λ z. tasks_passed n z) v (found v) | Some s ↦ v ]))
          ≡ None
      by on None is unseen = tasks_over (λ z. tasks_passed n z) n v (found v) on refl is low unseen
      by on (Some s) is unseen = let absurdity : Some s ≡ None = sym is ∙ unseen in cc

  -- what such a poll takes comes up while no scope is seen
  pub polling_is : (w : State K) (x : Work) → polling_next w ≡ Some x → (first_seen (polling_rest w) ≡ None) × (found (polling_rest w) ≡ Some x)
  polling_is w x h = by (first_seen (polling_rest w)) refl h
    where
      by : (o : Option ℕ) → first_seen (polling_rest w) ≡ o
          → (elim o as (λ z. Option Work) [ None ↦ found (polling_rest w) | Some s ↦ None ]) ≡ Some x
          → (first_seen (polling_rest w) ≡ None) × (found (polling_rest w) ≡ Some x)
      by None is g = (is, g)
      by (Some s) is g = cc

pub polled_comes_next : {K : Types} → PolledComesNext K
polled_comes_next w x h =
    let v = look w in
    let u = polling_rest w in
    let is = polling_is w x h in
    let low : length v.queued ≤ length v.queued = omega arith in
    let calm : paused u (found u) ≡ None = tasks_still (length v.queued) v low is.0 in
    let rests : at_rest u ≡ u = rest_at_once u calm ∙ ap (λ (o : Option Work). looked u o) is.1 in
    (rests, ap (λ (z : State _). or_effects z (found z)) rests ∙ ap (λ (o : Option Work). or_effects u o) is.1)
