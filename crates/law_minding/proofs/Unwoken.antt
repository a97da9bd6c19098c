-- What each change leaves of a task that isn't woken, where nothing wakes it.
use Rattle.std.proofs.Common.{ℕ, ◌+◌, ◌≤◌, Bool, true, false, List, [], ◌∷◌, ◌++◌, ◌≡◌, ◌⊎◌, ◌&&◌, inl, inr, not, refl, sym, ap, ◌∙◌, subst, nat_eq}
use Rattle.std.specs.Prelude.{Option, Some, None, if◌then◌else◌, is_some}
use Rattle.std.specs.List.{AllByRecursion}
use Rattle.rt_model.specs.Lists.{at, put, without, kept_by, has, drop_number, join}
use Rattle.rt_model.specs.Tree.{Types, Element}
use Rattle.rt_model.specs.World.{Source, Cell, Error, Context, Firsts, World, Meaning, Application}
use Rattle.rt_model.specs.State.{Posted, Mark, Woken, Scope, ContextRow, TaskRow, State, side_of, with_side, changed_scope, change, is_live, holds, world_of}
use Rattle.rt_model.specs.Commands.{same_posted, drop_posted, holding, unqueued, post, tell, activated, provided_at}
use Rattle.rt_model.specs.Next.{look_on, look}
use Rattle.rt_model.specs.Removal.{cells_in, cell_sources, tell_all, kinds_of_scopes, kinds_of_contexts, read_contexts, without_scope, gone}
use Rattle.rt_model.specs.Run.{with_next, called_once, called_where, is_own, kept_call, body_of, unmarked}
use Rattle.rt_model.specs.Replay.{mounted_state, with_new_scope}
use Rattle.rt_model.proofs.Maps.{by_test, eq_same}
use Rattle.rt_model.proofs.Members.{clash, number_left, number_gone, join_left}
use Rattle.law_behavior.specs.Marking.{IsPosted}
use Rattle.law_behavior.specs.Wakes.{differs}
use Rattle.law_behavior.proofs.Readers.{tell_posts}
use Rattle.law_behavior.proofs.Others.{posted_split, told_only}
use Rattle.law_behavior.proofs.Frames.{Free, Cause, WakesTask, SetsActive, Tells, GoesAway, Permits, Frame, Called}
use Rattle.law_minding.specs.Waking.{hears, is_paused, removal_wakes}
use Rattle.law_minding.proofs.Values.{apart}
use Rattle.law_minding.proofs.Hearing.{and_both, target_is, hears_in, hears_none, AllGo, all_cells_go, contexts_go}

-- what is kept of a list of posts was posted
kept_posted : (f : Posted → Bool) (ps : List Posted) (p : Posted) → IsPosted (kept_by f ps) p → IsPosted ps p
kept_posted f [] p h = h
kept_posted f (q ∷ ps) p h = by (f q) h (λ g. kept_posted f ps p g)
  where
    by : (b : Bool) → IsPosted (if b then q ∷ kept_by f ps else kept_by f ps) p → (IsPosted (kept_by f ps) p → IsPosted ps p) → IsPosted (q ∷ ps) p
    by true (inl e) go = inl e
    by true (inr g) go = inr (go g)
    by false g go = inr (go g)

-- a mark is no wake, and the wake of another task neither
not_mark : {P : Type 0} (t s : ℕ) → Mark s ≡ Woken t → P
not_mark t s e = cc

not_other : {P : Type 0} (t u : ℕ) → nat_eq u t ≡ false → Woken u ≡ Woken t → P
not_other t u other e =
    let one : u ≡ t = cc in
    clash (ap (λ (n : ℕ). nat_eq n t) one ∙ eq_same t) other

dropped_none : (t : ℕ) (ps : List Posted) → IsPosted (drop_posted ps (Woken t)) (Woken t) → ⊥
dropped_none t [] h = h
dropped_none t (Mark s ∷ ps) h = by h (λ g. dropped_none t ps g)
  where
    by : (Mark s ≡ Woken t) ⊎ IsPosted (drop_posted ps (Woken t)) (Woken t) → (IsPosted (drop_posted ps (Woken t)) (Woken t) → ⊥) → ⊥
    by (inl e) go = not_mark t s e
    by (inr g) go = go g
dropped_none t (Woken u ∷ ps) h = by (nat_eq u t) refl h (λ g. dropped_none t ps g)
  where
    by : (b : Bool) → nat_eq u t ≡ b → IsPosted (if not b then Woken u ∷ drop_posted ps (Woken t) else drop_posted ps (Woken t)) (Woken t)
        → (IsPosted (drop_posted ps (Woken t)) (Woken t) → ⊥)
        → ⊥
    by true q g go = go g
    by false q (inl e) go = not_other t u q e
    by false q (inr g) go = go g

module _ {K : Types} (t : ℕ) where
  holding_none : (es : List (ℕ × Scope K)) (u : ℕ) → IsPosted (holding es u) (Woken t) → ⊥
  holding_none [] u h = h
  holding_none (e ∷ es) u h = by (holds e.1 u) h (λ g. holding_none es u g)
    where
      by : (b : Bool) → IsPosted (if b then Mark e.0 ∷ holding es u else holding es u) (Woken t) → (IsPosted (holding es u) (Woken t) → ⊥) → ⊥
      by true (inl same) go = not_mark t e.0 same
      by true (inr g) go = go g
      by false g go = go g

  -- its number was drawn, and it has no wake, posted or queued
  pub record Calm (w : State K) : Type 0 where
    pub low : t + 1 ≤ w.next.tasks
    pub unposted : IsPosted w.posted (Woken t) → ⊥
    pub unqueued_yet : has w.queued t ≡ true → ⊥

  pub stays : (w v : State K) → v.next ≡ w.next → v.posted ≡ w.posted → v.queued ≡ w.queued → Calm w → Calm v
  stays w v next posted queued h =
      record {
        low = subst (λ (f : Firsts). t + 1 ≤ f.tasks) (sym next) h.low;
        unposted = λ p. h.unposted (subst (λ (ps : List Posted). IsPosted ps (Woken t)) posted p);
        unqueued_yet = λ q. h.unqueued_yet (ap (λ (ns : List ℕ). has ns t) (sym queued) ∙ q);
      }

  -- other posts
  one_more : (w : State K) (p : Posted) → ((p ≡ Woken t) → ⊥) → Calm w → Calm (record w { posted = w.posted ++ p ∷ [] })
  one_more w p other h =
      record {
        low = h.low;
        unposted = λ q. elim (posted_split w.posted (p ∷ []) (Woken t) q) [ inl a ↦ h.unposted a | inr a ↦ elim a [ inl e ↦ other e | inr b ↦ absurd b ] ];
        unqueued_yet = h.unqueued_yet;
      }

  pub mark_calm : (w : State K) (s : ℕ) → Calm w → Calm (post w (Mark s))
  mark_calm w s h = by (is_live w s)
    where
      by : (b : Bool) → Calm (if b then record w { posted = w.posted ++ Mark s ∷ [] } else w)
      by true = one_more w (Mark s) (λ e. not_mark t s e) h
      by false = h

  pub wake_calm : (w : State K) (u : ℕ) → nat_eq u t ≡ false → Calm w → Calm (post w (Woken u))
  wake_calm w u other h = by (is_some (at w.tasks u))
    where
      by : (b : Bool) → Calm (if b then record w { posted = w.posted ++ Woken u ∷ [] } else w)
      by true = one_more w (Woken u) (λ e. not_other t u other e) h
      by false = h

  -- a source is told that the task didn't read
  pub tell_calm : (w : State K) (i : Source) → hears t w.contexts i ≡ false → Calm w → Calm (tell w i)
  tell_calm w i none h =
      let same : tell w i ≡ record w { posted = (tell w i).posted } = (tell_posts w i).alike in
      record {
        low = subst (λ (f : Firsts). t + 1 ≤ f.tasks) (sym (ap (λ (z : State K). z.next) same)) h.low;
        unposted =
            λ p.
            elim (told_only w i (Woken t) p) [
              | inl a ↦ h.unposted a
              | inr a ↦ elim a [
                | inl (s, x, stands, reads, is) ↦ not_mark t s (sym is)
                | inr (n, x, stands, reads, targets) ↦ clash (hears_in t w.contexts i n x stands reads (target_is t w x.target targets)) none
              ]
            ];
        unqueued_yet = λ q. h.unqueued_yet (ap (λ (z : State K). has z.queued t) (sym same) ∙ q);
      }

  tell_contexts_stay : (w : State K) (i : Source) → (tell w i).contexts ≡ w.contexts
  tell_contexts_stay w i = ap (λ (z : State K). z.contexts) (tell_posts w i).alike

  tells_calm : (es : List (ℕ × ContextRow K)) (xs : List Source) (w : State K) → w.contexts ≡ es → AllByRecursion (λ (i : Source). hears t es i ≡ false) xs → Calm w
      → Calm (tell_all w xs) × ((tell_all w xs).contexts ≡ es)
  tells_calm es [] w same none h = (h, same)
  tells_calm es (i ∷ xs) w same none h =
      tells_calm es xs (tell w i) (tell_contexts_stay w i ∙ same) none.1
      (tell_calm w i (ap (λ (ds : List (ℕ × ContextRow K)). hears t ds i) same ∙ none.0) h)

  -- looks
  looks_calm : (ps : List Posted) (w : State K) → (IsPosted ps (Woken t) → ⊥) → Calm w → Calm (look_on ps w)
  looks_calm [] w none h = h
  looks_calm (Mark s ∷ ps) w none h = looks_calm ps (if is_live w s then record w { seen = join w.seen s } else w) (λ p. none (inr p)) (by (is_live w s))
    where
      by : (b : Bool) → Calm (if b then record w { seen = join w.seen s } else w)
      by true = stays w (record w { seen = join w.seen s }) refl refl refl h
      by false = h
  looks_calm (Woken u ∷ ps) w none h = looks_calm ps (if is_some (at w.tasks u) then record w { queued = join w.queued u } else w) (λ p. none (inr p)) (by (is_some (at w.tasks u)))
    where
      by : (b : Bool) → Calm (if b then record w { queued = join w.queued u } else w)
      by true =
          record {
            low = h.low;
            unposted = h.unposted;
            unqueued_yet = λ q. elim (join_left w.queued u t q) [ inl a ↦ h.unqueued_yet a | inr e ↦ none (inl (ap (λ (n : ℕ). Woken n) e)) ];
          }
      by false = h

  pub look_calm : (w : State K) → Calm w → Calm (look w)
  look_calm w h =
      looks_calm w.posted (record w { posted = [] }) h.unposted (record { low = h.low; unposted = λ p. p; unqueued_yet = h.unqueued_yet })

  -- at the start of its poll
  pub starts_calm : (w : State K) → t + 1 ≤ w.next.tasks → Calm (unqueued w t)
  starts_calm w low = record { low = low; unposted = λ p. dropped_none t w.posted p; unqueued_yet = λ q. clash q (number_gone w.queued t) }

  changed_calm : (w : State K) (s : ℕ) (f : Scope K → Scope K) (o : Option (Scope K)) → Calm w → Calm (changed_scope w s f o)
  changed_calm w s f None h = h
  changed_calm w s f (Some x) h = stays w (record w { scopes = put w.scopes s (f x) }) refl refl refl h

  calm_if : (x y : State K) (b : Bool) → (b ≡ true → Calm x) → (b ≡ false → Calm y) → Calm (if b then x else y)
  calm_if x y true f g = f refl
  calm_if x y false f g = g refl

  -- a task that is set active, or paused
  activated_calm : (w : State K) (u : ℕ) (active : Bool) (x : TaskRow K) → at w.tasks u ≡ Some x → nat_eq u t && (active && is_paused (at w.tasks u)) ≡ false → Calm w
      → Calm (activated w u active (Some x))
  activated_calm w u active x e none h =
      let v : State K = record w { tasks = put w.tasks u (record x { active = active }) } in
      let now : Calm v = stays w v refl refl refl h in
      calm_if (post v (Woken u)) v (active && not x.active)
      (
      λ q.
      wake_calm v u
      (
      by_test (nat_eq u t)
      (λ p. clash (and_both (nat_eq u t) (active && is_paused (at w.tasks u)) p (ap (λ (o : Option (TaskRow K)). active && is_paused o) e ∙ q)) none)
      (λ p. p)
      )
      now
      )
      (λ q. now)

  -- a scope that goes
  goes_calm : (w : State K) (s : ℕ) → removal_wakes t w.cells s (kept_by (λ e. not (nat_eq (e.1).scope s)) w.contexts) ≡ false → Calm w → Calm (gone w s)
  goes_calm w s none h =
      let es : List (ℕ × ContextRow K) = kept_by (λ e. not (nat_eq (e.1).scope s)) w.contexts in
      let v : State K = without_scope w s in
      let u : State K = tell_all v (cell_sources (cells_in s w.cells)) in
      let first = tells_calm es (cell_sources (cells_in s w.cells)) v refl (silent es none (cell_sources (cells_in s w.cells)) (all_cells_go t w.cells s)) (stays w v refl refl refl h) in
      (tells_calm es (Error s ∷ read_contexts u s) u first.1 (silent es none (Error s ∷ read_contexts u s) (eq_same s, contexts_go t w.cells s (kinds_of_contexts s u.contexts (kinds_of_scopes s u.scopes [])))) first.0).0
    where
      silent : (es : List (ℕ × ContextRow K)) → removal_wakes t w.cells s es ≡ false → (xs : List Source) → AllGo t w.cells s xs → AllByRecursion (λ (i : Source). hears t es i ≡ false) xs
      silent es quiet [] all = tt
      silent es quiet (i ∷ xs) all = (hears_none t w.cells s es quiet i all.0, silent es quiet xs all.1)

  -- the wakes of a task that ends go, and who it held is marked
  ended_calm : (w v : State K) (u : ℕ) → v.next ≡ w.next → v.posted ≡ drop_posted w.posted (Woken u) ++ holding w.scopes u → v.queued ≡ drop_number w.queued u → Calm w → Calm v
  ended_calm w v u next posted queued h =
      record {
        low = subst (λ (f : Firsts). t + 1 ≤ f.tasks) (sym next) h.low;
        unposted =
            λ p.
            elim (posted_split (drop_posted w.posted (Woken u)) (holding w.scopes u) (Woken t) (subst (λ (ps : List Posted). IsPosted ps (Woken t)) posted p)) [
              | inl a ↦ h.unposted (kept_posted (λ x. not (same_posted x (Woken u))) w.posted (Woken t) a)
              | inr a ↦ holding_none w.scopes u a
            ];
        unqueued_yet = λ q. h.unqueued_yet (number_left w.queued u t (ap (λ (ns : List ℕ). has ns t) (sym queued) ∙ q)).0;
      }

  -- less is posted or queued
  less_calm : (w v : State K) (f : Posted → Bool) → v.next ≡ w.next → v.posted ≡ kept_by f w.posted → (has v.queued t ≡ true → has w.queued t ≡ true) → Calm w → Calm v
  less_calm w v f next posted queued h =
      record {
        low = subst (λ (z : Firsts). t + 1 ≤ z.tasks) (sym next) h.low;
        unposted = λ p. h.unposted (kept_posted f w.posted (Woken t) (subst (λ (ps : List Posted). IsPosted ps (Woken t)) posted p));
        unqueued_yet = λ q. h.unqueued_yet (queued q);
      }

  -- what may wake others
  abbrev pub NotIt : State K → Cause → Type 0
  NotIt w (WakesTask u) = nat_eq u t ≡ false
  NotIt w (SetsActive u active) = nat_eq u t && (active && is_paused (at w.tasks u)) ≡ false
  NotIt w (Tells i) = hears t w.contexts i ≡ false
  NotIt w (GoesAway s) = removal_wakes t w.cells s (kept_by (λ e. not (nat_eq (e.1).scope s)) w.contexts) ≡ false

  abbrev pub others_wake : Permits K
  others_wake =
      record {
        clearable = Free;
        makeable = Free;
        writable = Free;
        droppable = Free;
        openable = Free;
        readable = Free;
        pollable = Free;
        endable = Free;
        spawnable = λ w u s a. Unit {0};
        feedable = Free;
        removable = Free;
        causable = λ w c. NotIt w c;
      }

  module _ (app : Application K) where
    provided_calm : (w : State K) (s k : ℕ) (v : K.Value) (x : Scope K) → at w.scopes s ≡ Some x → (differs app v (at x.contexts k) ≡ true → hears t w.contexts (Context k s) ≡ false) → Calm w
        → Calm (provided_at app w s k v (at x.contexts k))
    provided_calm w s k v x e none h = on (at x.contexts k) none
      where
        u : State K
        u = change w s (λ y. record y { contexts = put y.contexts k v })

        now : Calm u
        now = changed_calm w s (λ y. record y { contexts = put y.contexts k v }) (at w.scopes s) h

        same : (o : Option (Scope K)) → (changed_scope w s (λ y. record y { contexts = put y.contexts k v }) o).contexts ≡ w.contexts
        same None = refl
        same (Some y) = refl

        told : hears t w.contexts (Context k s) ≡ false → Calm (tell u (Context k s))
        told quiet = tell_calm u (Context k s) (ap (λ (es : List (ℕ × ContextRow K)). hears t es (Context k s)) (same (at w.scopes s)) ∙ quiet) now

        on : (o : Option K.Value) → (differs app v o ≡ true → hears t w.contexts (Context k s) ≡ false) → Calm (provided_at app w s k v o)
        on None quiet = told (quiet refl)
        on (Some old) quiet =
            calm_if u (tell u (Context k s)) (app.same_value old v)
            (λ q. now)
            (λ q. told (quiet (ap (λ (b : Bool). not b) q)))

    -- the frame
    pub frame : Frame app (λ w. Calm w) (λ w. Calm w) (t + 1) others_wake
    frame =
        record {
          low = λ w h. h.low;
          leaves = λ w h. h;
          marks = λ w s h. mark_calm w s h;
          wakes = λ w u other h. wake_calm w u other h;
          tells = λ w i none h. tell_calm w i none h;
          looks = λ w h. look_calm w h;
          pauses = λ w u e h. record { low = h.low; unposted = h.unposted; unqueued_yet = λ q. h.unqueued_yet (number_left w.queued u t q).0 };
          unqueues = λ w u a h. less_calm w (unqueued w u) (λ x. not (same_posted x (Woken u))) refl refl (λ q. (number_left w.queued u t q).0) h;
          unmarks = λ w s h. less_calm w (unmarked w s) (λ x. not (same_posted x (Mark s))) refl refl (λ q. q) h;
          asides = λ w v e h. stays w v (ap (λ (z : State K). z.next) e) (ap (λ (z : State K). z.posted) e) (ap (λ (z : State K). z.queued) e) h;
          nexts = λ w next drawn h. record { low = drawn.low; unposted = h.unposted; unqueued_yet = h.unqueued_yet };
          writes =
              λ w n v old e a none h.
              let u : State K = record w { cells = put w.cells n (record old { value = v }) } in tell_calm u (Cell n) none (stays w u refl refl refl h);
          drops = λ w n a none h. let u : State K = record w { cells = without w.cells n } in tell_calm u (Cell n) none (stays w u refl refl refl h);
          new_cells = λ w s n v a h. stays w _ refl refl refl h;
          new_contexts = λ w n x a h. stays w _ refl refl refl h;
          sources = λ w n x y e a h. stays w _ refl refl refl h;
          rows = λ w s x y e same h. stays w _ refl refl refl h;
          hooks = λ w s x k e h. stays w _ refl refl refl h;
          joins = λ w b u origin x e h. stays w _ refl refl refl h;
          throws =
              λ w b x e live empty none h.
              let u : State K = record w { scopes = put w.scopes b (record x { error = Some e }) } in tell_calm u (Error b) none (stays w u refl refl refl h);
          clears =
              λ w b x live a none h.
              let u : State K = record w { scopes = put w.scopes b (record x { error = None }) } in tell_calm u (Error b) none (stays w u refl refl refl h);
          provides = λ w s k v x e none h. provided_calm w s k v x e none h;
          feeds = λ w u c x e a h. stays w _ refl refl refl h;
          patches = λ w s side tree x e h. stays w _ refl refl refl h;
          draws =
              λ w s side p k h.
              let next : Firsts = record (w.next) { elements = w.next.elements + 1 } in
              changed_calm (with_next w next) s (λ x. with_side x side (record (side_of x side) { numbers = (side_of x side).numbers ++ (p, k, w.next.elements) ∷ [] })) (at w.scopes s)
              (record { low = h.low; unposted = h.unposted; unqueued_yet = h.unqueued_yet });
          empties = λ w b x e h. stays w _ refl refl refl h;
          makes = λ w s side p c x e h. stays w (with_new_scope w s side p c x) refl refl refl h;
          goes = λ w s a none h. goes_calm w s none h;
          mounts = λ w h. stays w (mounted_state w) refl refl refl h;
          ends = λ w u a h. ended_calm w _ u refl refl refl h;
          spawns =
              λ w u x live low free h.
              let v : State K = record w { tasks = w.tasks ++ (u, x) ∷ [] } in wake_calm v u (apart t u low) (stays w v refl refl refl h);
          goes_on = λ w u x a e may h. stays w _ refl refl refl h;
          suspends = λ w u x e h. stays w _ refl refl refl h;
          activates = λ w u active x e none h. activated_calm w u active x e none h;
        }

    once_calm : (w : State K) (b : Bool) → Calm w → Calm (called_where b w)
    once_calm w true h = stays w (called_once w) refl refl refl h
    once_calm w false h = h

    -- a body's call
    pub called : Called app (λ w. Calm w) (t + 1)
    called =
        record {
          bodies =
              λ w s c drawn h.
              let world : World K = world_of w s None true in
              let m : Meaning K (Element K) = body_of app c world in
              let u : State K = called_where (is_own c world) w in
              let v : State K = with_next u m.next in
              let begun : Calm u = once_calm w (is_own c world) h in
              let z : State K = change v s (λ x. record x { reads = m.reads }) in
              let kept : Calm z =
              changed_calm v s (λ x. record x { reads = m.reads }) (at v.scopes s) (record { low = drawn.low; unposted = begun.unposted; unqueued_yet = begun.unqueued_yet }) in
              stays z (kept_call u s world m) refl refl refl kept;
          turns = λ w b x e h. stays w _ refl refl refl h;
          turns_nowhere = λ w b e h. stays w _ refl refl refl h;
        }
