-- What looks, messages and the ends of units leave of marks and wakes.
use Rattle.std.proofs.Common.{ℕ, Bool, true, false, List, [], ◌∷◌, ◌≡◌, ◌⊎◌, inl, inr, ◌||◌, refl, sym, ap, ◌∙◌, subst, nat_eq}
use Rattle.std.proofs.lemmas.Bool.{eqb-true}
use Rattle.std.specs.Prelude.{Option, Some, None, if◌then◌else◌, is_some}
use Rattle.rt_model.specs.Lists.{at, has, drop_number, join}
use Rattle.rt_model.specs.Tree.{Types}
use Rattle.rt_model.specs.World.{Firsts}
use Rattle.rt_model.specs.State.{Posted, Mark, Woken, Scope, TaskRow, State, Outcome, Done, Cut, onward, is_live, is_shown}
use Rattle.rt_model.specs.Commands.{post}
use Rattle.rt_model.specs.Next.{Work, RerunScope, PollTask, RunEffects, is_active, look_on, look, found, paused, drop_then, drops, looked, at_rest}
use Rattle.rt_model.specs.Run.{with_next, called_once}
use Rattle.rt_model.specs.Replay.{Post, MarkScope, WakeTask, AllDirty, Message, mounted, mounted_state, post_all, post_message, post_messages}
use Rattle.rt_model.proofs.Maps.{by_test, pick_true, pick_false, at_here, at_there}
use Rattle.rt_model.proofs.Members.{clash, number_stays, join_keeps, join_has}
use Rattle.law_behavior.specs.Marking.{IsPosted}
use Rattle.law_behavior.specs.Owed.{IsMarked, IsWoken, OwesRun, OwesPoll}
use Rattle.law_behavior.proofs.Stays.{Stays, stays_refl, stays_then, stays_to, quiet, post_stays, rest_stays}

module _ {K : Types} where
  -- the same of a change that isn't cut
  abbrev pub StaysO : Option ℕ → Option ℕ → State K → Outcome K → Type 0
  StaysO past passed w (Done v work) = Stays past passed w v
  StaysO past passed w (Cut v fault) = Unit {0}

  pub onward_stays : (past passed : Option ℕ) (w : State K) (o : Outcome K) (f : State K → Outcome K) → StaysO past passed w o → ((v : State K) → StaysO past passed v (f v)) → StaysO past passed w (onward o f)
  onward_stays past passed w (Done v work) f h g = from v (f v) h (g v)
    where
      from : (u : State K) (o : Outcome K) → Stays past passed w u → StaysO past passed u o → StaysO past passed w o
      from u (Done x work) a b = stays_then past passed w u x a b
      from u (Cut x fault) a b = tt
  onward_stays past passed w (Cut v fault) f h g = tt

  pub from_stays : (past passed : Option ℕ) (w u : State K) (o : Outcome K) → Stays past passed w u → StaysO past passed u o → StaysO past passed w o
  from_stays past passed w u (Done x work) a b = stays_then past passed w u x a b
  from_stays past passed w u (Cut x fault) a b = tt

  pub stays_o_to : (past passed : Option ℕ) (w : State K) (o : Outcome K) → StaysO None None w o → StaysO past passed w o
  stays_o_to past passed w (Done v work) h = stays_to past passed w v h
  stays_o_to past passed w (Cut v fault) h = tt

  pub stays_o_if : (past passed : Option ℕ) (w : State K) (x y : Outcome K) (b : Bool) → StaysO past passed w x → StaysO past passed w y → StaysO past passed w (if b then x else y)
  stays_o_if past passed w x y true f g = f
  stays_o_if past passed w x y false f g = g

  pub next_stays : (w : State K) (next : Firsts) → Stays None None w (with_next w next)
  next_stays w next = rest_stays w (with_next w next) refl refl refl refl refl

  pub once_stays : (w : State K) → Stays None None w (called_once w)
  once_stays w = rest_stays w (called_once w) refl refl refl refl refl

  -- looks

  looks_run : (ps : List Posted) (v : State K) (s : ℕ) → (is_live v s ≡ true → IsPosted ps (Mark s) ⊎ IsMarked v s) → OwesRun (look_on ps v) s
  looks_run [] v s h = λ live. elim (h live) [ inl a ↦ absurd a | inr a ↦ a ]
  looks_run (Mark r ∷ ps) v s h =
      by_test (is_live v r)
      (
      λ q.
      let u : State K = record v { seen = join v.seen r } in
      subst (λ (x : State K). OwesRun (look_on ps x) s) (sym (pick_true u v q))
      (looks_run ps u s (λ live. elim (h live) [
        | inl a ↦ elim a [ inl e ↦ inr (inr (taken r e)) | inr b ↦ inl b ]
        | inr a ↦ elim a [ inl b ↦ inr (inl b) | inr b ↦ inr (inr (join_keeps v.seen r s b)) ]
      ]))
      )
      (
      λ q.
      subst (λ (x : State K). OwesRun (look_on ps x) s) (sym (pick_false (record v { seen = join v.seen r }) v q))
      (looks_run ps v s (λ live. elim (h live) [
        | inl a ↦ elim a [ inl e ↦ clash live (passed r e q) | inr b ↦ inl b ]
        | inr a ↦ inr a
      ]))
      )
    where
      taken : (n : ℕ) → Mark n ≡ Mark s → has (join v.seen n) s ≡ true
      taken n e = let same : n ≡ s = cc in subst (λ (k : ℕ). has (join v.seen k) s ≡ true) (sym same) (join_has v.seen s)

      passed : (n : ℕ) → Mark n ≡ Mark s → is_live v n ≡ false → is_live v s ≡ false
      passed n e q = let same : n ≡ s = cc in subst (λ (k : ℕ). is_live v k ≡ false) same q
  looks_run (Woken r ∷ ps) v s h =
      by_test (is_some (at v.tasks r))
      (
      λ q.
      let u : State K = record v { queued = join v.queued r } in
      subst (λ (x : State K). OwesRun (look_on ps x) s) (sym (pick_true u v q))
      (looks_run ps u s (λ live. elim (h live) [ inl a ↦ elim a [ inl e ↦ other r e | inr b ↦ inl b ] | inr a ↦ inr a ]))
      )
      (
      λ q.
      subst (λ (x : State K). OwesRun (look_on ps x) s) (sym (pick_false (record v { queued = join v.queued r }) v q))
      (looks_run ps v s (λ live. elim (h live) [ inl a ↦ elim a [ inl e ↦ other r e | inr b ↦ inl b ] | inr a ↦ inr a ]))
      )
    where
      other : {P : Type 0} (n : ℕ) → Woken n ≡ Mark s → P
      other n e = cc

  active_there : (w : State K) (t : ℕ) (o : Option (TaskRow K)) → at w.tasks t ≡ o → elim o as (λ z. Bool) [ None ↦ false | Some x ↦ x.active ] ≡ true → is_some o ≡ true
  active_there w t None e h = h
  active_there w t (Some x) e h = refl

  looks_poll : (ps : List Posted) (v : State K) (t : ℕ) → (is_active v t ≡ true → IsPosted ps (Woken t) ⊎ IsWoken v t) → OwesPoll (look_on ps v) t
  looks_poll [] v t h = λ active. elim (h active) [ inl a ↦ absurd a | inr a ↦ a ]
  looks_poll (Woken r ∷ ps) v t h =
      by_test (is_some (at v.tasks r))
      (
      λ q.
      let u : State K = record v { queued = join v.queued r } in
      subst (λ (x : State K). OwesPoll (look_on ps x) t) (sym (pick_true u v q))
      (looks_poll ps u t (λ active. elim (h active) [
        | inl a ↦ elim a [ inl e ↦ inr (inr (taken r e)) | inr b ↦ inl b ]
        | inr a ↦ elim a [ inl b ↦ inr (inl b) | inr b ↦ inr (inr (join_keeps v.queued r t b)) ]
      ]))
      )
      (
      λ q.
      subst (λ (x : State K). OwesPoll (look_on ps x) t) (sym (pick_false (record v { queued = join v.queued r }) v q))
      (looks_poll ps v t (λ active. elim (h active) [
        | inl a ↦ elim a [ inl e ↦ clash (active_there v t (at v.tasks t) refl active) (passed r e q) | inr b ↦ inl b ]
        | inr a ↦ inr a
      ]))
      )
    where
      taken : (n : ℕ) → Woken n ≡ Woken t → has (join v.queued n) t ≡ true
      taken n e = let same : n ≡ t = cc in subst (λ (k : ℕ). has (join v.queued k) t ≡ true) (sym same) (join_has v.queued t)

      passed : (n : ℕ) → Woken n ≡ Woken t → is_some (at v.tasks n) ≡ false → is_some (at v.tasks t) ≡ false
      passed n e q = let same : n ≡ t = cc in subst (λ (k : ℕ). is_some (at v.tasks k) ≡ false) same q
  looks_poll (Mark r ∷ ps) v t h =
      by_test (is_live v r)
      (
      λ q.
      let u : State K = record v { seen = join v.seen r } in
      subst (λ (x : State K). OwesPoll (look_on ps x) t) (sym (pick_true u v q))
      (looks_poll ps u t (λ active. elim (h active) [ inl a ↦ elim a [ inl e ↦ other r e | inr b ↦ inl b ] | inr a ↦ inr a ]))
      )
      (
      λ q.
      subst (λ (x : State K). OwesPoll (look_on ps x) t) (sym (pick_false (record v { seen = join v.seen r }) v q))
      (looks_poll ps v t (λ active. elim (h active) [ inl a ↦ elim a [ inl e ↦ other r e | inr b ↦ inl b ] | inr a ↦ inr a ]))
      )
    where
      other : {P : Type 0} (n : ℕ) → Mark n ≡ Woken t → P
      other n e = cc

  looks_live : (ps : List Posted) (v : State K) (s : ℕ) → is_live (look_on ps v) s ≡ true → is_live v s ≡ true
  looks_live [] v s h = h
  looks_live (Mark r ∷ ps) v s h =
      same (is_live v r) (looks_live ps (if is_live v r then record v { seen = join v.seen r } else v) s h)
    where
      same : (b : Bool) → is_live (if b then record v { seen = join v.seen r } else v) s ≡ true → is_live v s ≡ true
      same true g = g
      same false g = g
  looks_live (Woken r ∷ ps) v s h =
      same (is_some (at v.tasks r)) (looks_live ps (if is_some (at v.tasks r) then record v { queued = join v.queued r } else v) s h)
    where
      same : (b : Bool) → is_live (if b then record v { queued = join v.queued r } else v) s ≡ true → is_live v s ≡ true
      same true g = g
      same false g = g

  pub look_stays : (w : State K) → Stays None None w (look w)
  look_stays w =
      let v : State K = record w { posted = [] } in
      record {
        comes = λ s p h. looks_live w.posted v s h;
        runs = λ s p h. looks_run w.posted v s (λ live. elim (h live) [ inl a ↦ inl a | inr a ↦ inr (inr a) ]);
        polls = λ t p h. looks_poll w.posted v t (λ active. elim (h active) [ inl a ↦ inl a | inr a ↦ inr (inr a) ]);
      }

  -- a paused task leaves the queue
  paused_is : (w : State K) (o : Option Work) (t : ℕ) → paused w o ≡ Some t → is_active w t ≡ false
  paused_is w None t h = cc
  paused_is w (Some (RerunScope s)) t h = cc
  paused_is w (Some (RunEffects s)) t h = cc
  paused_is w (Some (PollTask u)) t h =
      by_test (is_active w u)
      (λ q. let absurdity : None ≡ Some t = sym (pick_true None (Some u) q) ∙ h in cc)
      (λ q. let found : Some u ≡ Some t = sym (pick_false None (Some u) q) ∙ h in let same : u ≡ t = cc in subst (λ (n : ℕ). is_active w n ≡ false) same q)

  dropped_stays : (w : State K) (t : ℕ) → is_active w t ≡ false → Stays None None w (record w { queued = drop_number w.queued t })
  dropped_stays w t quiet_task =
      record {
        comes = λ s p h. h;
        runs = λ s p h live. elim (h live) [ inl a ↦ inl a | inr a ↦ inr a ];
        polls =
            λ u p h active.
            by_test (nat_eq t u)
            (λ q. clash active (ap (λ (n : ℕ). is_active w n) (sym (eqb-true t u q)) ∙ quiet_task))
            (λ q. elim (h active) [ inl a ↦ inl a | inr a ↦ inr (number_stays w.queued t u q a) ]);
      }

  drops_stay : (qs : List ℕ) (w : State K) → Stays None None w (drops qs w)
  drops_stay [] w = stays_refl None None w
  drops_stay (q ∷ qs) w = on (λ v. drops_stay qs v) (paused w (found w)) refl
    where
      on : ((v : State K) → Stays None None v (drops qs v)) → (o : Option ℕ) → paused w (found w) ≡ o → Stays None None w (drop_then (λ v. drops qs v) w o)
      on go None e = stays_refl None None w
      on go (Some t) e =
          let v : State K = record w { queued = drop_number w.queued t } in
          stays_then None None w v (drops qs v) (dropped_stays w t (paused_is w (found w) t e)) (go v)

  pub rest_is_kept : (w : State K) → Stays None None w (at_rest w)
  rest_is_kept w = on (found (drops w.queued w))
    where
      on : (o : Option Work) → Stays None None w (looked (drops w.queued w) o)
      on (Some x) = drops_stay w.queued w
      on None =
          let v : State K = drops w.queued w in
          let u : State K = look v in
          stays_then None None w v (drops u.queued u) (drops_stay w.queued w) (stays_then None None v u (drops u.queued u) (look_stays v) (drops_stay u.queued u))

  -- messages

  post_all_stays : (es : List (ℕ × Scope K)) (w : State K) → Stays None None w (post_all es w)
  post_all_stays [] w = stays_refl None None w
  post_all_stays (e ∷ es) w = stays_then None None w (post w (Mark e.0)) (post_all es (post w (Mark e.0))) (post_stays w (Mark e.0)) (post_all_stays es (post w (Mark e.0)))

  message_stays : (w : State K) (what : Post) → Stays None None w (post_message w what)
  message_stays w (MarkScope s) = post_stays w (Mark s)
  message_stays w (WakeTask t) = post_stays w (Woken t)
  message_stays w AllDirty = post_all_stays w.scopes w

  pub messages_stay : (w : State K) (ms : List Message) → Stays None None w (post_messages w ms)
  messages_stay w [] = stays_refl None None w
  messages_stay w (m ∷ ms) = stays_then None None w (post_message w m.what) (post_messages (post_message w m.what) ms) (message_stays w m.what) (messages_stay (post_message w m.what) ms)

  -- the build or a unit ends
  mounted_live : (w : State K) (es : List (ℕ × Scope K)) (s : ℕ) → is_some (at (mounted w es) s) ≡ true → is_some (at es s) ≡ true
  mounted_live w [] s h = h
  mounted_live w (e ∷ es) s h =
      by_test (nat_eq e.0 s)
      (λ q. ap (λ (o : Option (Scope K)). is_some o) (at_here e.0 e.1 es s q))
      (
      λ q.
      ap (λ (o : Option (Scope K)). is_some o) (at_there e.0 e.1 es s q)
      ∙ mounted_live w es s
      (ap (λ (o : Option (Scope K)). is_some o) (sym (at_there e.0 (record (e.1) { mounted = (e.1).mounted || is_shown w e.0 }) (mounted w es) s q)) ∙ h)
      )

  pub mounts_stay : (w : State K) → Stays None None w (mounted_state w)
  mounts_stay w = quiet w (mounted_state w) (λ s h. mounted_live w w.scopes s h) refl refl refl refl
