-- What single changes leave of marks and wakes: all of them, but for what is run, polled or gone.
use Rattle.std.proofs.Common.{ℕ, Bool, true, false, List, [], ◌∷◌, ◌++◌, ◌≡◌, inl, inr, ◌&&◌, not, refl, sym, ap, ◌∙◌, subst, nat_eq}
use Rattle.std.proofs.lemmas.Bool.{eqb-true}
use Rattle.std.specs.Prelude.{Option, Some, None, if◌then◌else◌, is_some}
use Rattle.rt_model.specs.Lists.{at, put, without, kept_by, has, drop_number}
use Rattle.rt_model.specs.Tree.{Types, CapturedError}
use Rattle.rt_model.specs.World.{Source, Cell, Error, Context, Command, KeepHook, NewCell, Write, DropCell, NewContext, Reset, ReadInto, Spawn, RemoveFuture, Wake, SetActive, QueueEffect, Provide, Update, Throw, ClearErrors, Resolved, Freeze, Application}
use Rattle.rt_model.specs.State.{Posted, Mark, Woken, ClientOnly, Isomorphic, Scope, CellRow, ContextRow, TaskRow, State, is_live, changed_scope, change, error_context, suspense_context}
use Rattle.rt_model.specs.Commands.{same_posted, drop_posted, holding, released, one_more_source, post, tell, unqueued, end, written_at, drop_cell_row, caught_at, thrown_to, throw_error, cleared_at, activated, spawned, registered, frozen_at, provided_at, command, commands}
use Rattle.rt_model.specs.Next.{is_active}
use Rattle.rt_model.specs.Run.{unmarked}
use Rattle.rt_model.proofs.Maps.{by_test, pick_true, eq_same, at_here, at_there, at_put_here, at_put_other, at_without_here, at_without_other, at_append_none}
use Rattle.rt_model.proofs.Members.{clash, turned_round, number_stays}
use Rattle.law_behavior.specs.Marking.{IsPosted}
use Rattle.law_behavior.specs.Owed.{IsMarked, IsWoken, OwesRun, OwesPoll}
use Rattle.law_behavior.proofs.Readers.{posted_first, posted_last, Posts, post_posts, tell_posts}

abbrev pub is_it : Option ℕ → ℕ → Bool
is_it None n = false
is_it (Some m) n = nat_eq m n

kept_posted : (b : Bool) (q p : Posted) (ps rest : List Posted) → (q ≡ p → b ≡ true) → (IsPosted ps p → IsPosted rest p) → IsPosted (q ∷ ps) p → IsPosted (if b then q ∷ rest else rest) p
kept_posted true q p ps rest f go (inl h) = inl h
kept_posted true q p ps rest f go (inr h) = inr (go h)
kept_posted false q p ps rest f go (inl h) = clash (f h) refl
kept_posted false q p ps rest f go (inr h) = go h

-- what isn't the one that is taken out stays posted
pub posted_stays : (ps : List Posted) (out p : Posted) → same_posted p out ≡ false → IsPosted ps p → IsPosted (drop_posted ps out) p
posted_stays [] out p other h = h
posted_stays (q ∷ ps) out p other h =
    kept_posted (not (same_posted q out)) q p ps (drop_posted ps out)
    (λ e. ap (λ (x : Posted). not (same_posted x out)) e ∙ ap (λ (b : Bool). not b) other) (λ g. posted_stays ps out p other g) h

module _ {K : Types} where
  -- from w to v no scope but one comes, no mark but its own is lost while its scope lives, and no wake but one's while its task is active
  pub record Stays (past passed : Option ℕ) (w v : State K) : Type 0 where
    pub comes : (s : ℕ) → is_it past s ≡ false → is_live v s ≡ true → is_live w s ≡ true
    pub runs : (s : ℕ) → is_it past s ≡ false → OwesRun w s → OwesRun v s
    pub polls : (t : ℕ) → is_it passed t ≡ false → OwesPoll w t → OwesPoll v t

  pub stays_refl : (past passed : Option ℕ) (w : State K) → Stays past passed w w
  stays_refl past passed w = record { comes = λ s p h. h; runs = λ s p h. h; polls = λ t p h. h }

  pub stays_then : (past passed : Option ℕ) (u v w : State K) → Stays past passed u v → Stays past passed v w → Stays past passed u w
  stays_then past passed u v w f g =
      record {
        comes = λ s p h. f.comes s p (g.comes s p h);
        runs = λ s p h. g.runs s p (f.runs s p h);
        polls = λ t p h. g.polls t p (f.polls t p h);
      }

  pub stays_to : (past passed : Option ℕ) (w v : State K) → Stays None None w v → Stays past passed w v
  stays_to past passed w v f = record { comes = λ s p h. f.comes s refl h; runs = λ s p h. f.runs s refl h; polls = λ t p h. f.polls t refl h }

  pub stays_if : (past passed : Option ℕ) (w x y : State K) (b : Bool) → Stays past passed w x → Stays past passed w y → Stays past passed w (if b then x else y)
  stays_if past passed w x y true f g = f
  stays_if past passed w x y false f g = g

  marked_by : (w v : State K) (s : ℕ) → v.posted ≡ w.posted → v.seen ≡ w.seen → IsMarked w s → IsMarked v s
  marked_by w v s p q (inl h) = inl (subst (λ (ps : List Posted). IsPosted ps (Mark s)) (sym p) h)
  marked_by w v s p q (inr h) = inr (ap (λ (xs : List ℕ). has xs s) q ∙ h)

  woken_by : (w v : State K) (t : ℕ) → v.posted ≡ w.posted → v.queued ≡ w.queued → IsWoken w t → IsWoken v t
  woken_by w v t p q (inl h) = inl (subst (λ (ps : List Posted). IsPosted ps (Woken t)) (sym p) h)
  woken_by w v t p q (inr h) = inr (ap (λ (xs : List ℕ). has xs t) q ∙ h)

  -- the tasks and all that is owed are as before, and no scope comes
  pub quiet : (w v : State K) → ((s : ℕ) → is_live v s ≡ true → is_live w s ≡ true) → v.tasks ≡ w.tasks → v.posted ≡ w.posted → v.seen ≡ w.seen → v.queued ≡ w.queued → Stays None None w v
  quiet w v comes tasks posted seen queued =
      record {
        comes = λ s p h. comes s h;
        runs = λ s p h live. marked_by w v s posted seen (h (comes s live));
        polls =
            λ t p h active.
            woken_by w v t posted queued (h (ap (λ (es : List (ℕ × TaskRow K)). elim (at es t) as (λ z. Bool) [ None ↦ false | Some x ↦ x.active ]) (sym tasks) ∙ active));
      }

  put_live : (es : List (ℕ × Scope K)) (s : ℕ) (x y : Scope K) → at es s ≡ Some x → (t : ℕ) → is_some (at (put es s y) t) ≡ true → is_some (at es t) ≡ true
  put_live es s x y e t h =
      by_test (nat_eq s t)
      (λ q. ap (λ (o : Option (Scope K)). is_some o) (ap (λ (n : ℕ). at es n) (sym (eqb-true s t q)) ∙ e))
      (λ q. ap (λ (o : Option (Scope K)). is_some o) (sym (at_put_other es s y t q)) ∙ h)

  pub put_stays : (w : State K) (s : ℕ) (x y : Scope K) → at w.scopes s ≡ Some x → Stays None None w (record w { scopes = put w.scopes s y })
  put_stays w s x y e = quiet w (record w { scopes = put w.scopes s y }) (λ t h. put_live w.scopes s x y e t h) refl refl refl refl

  changed_stays : (w : State K) (s : ℕ) (f : Scope K → Scope K) (o : Option (Scope K)) → at w.scopes s ≡ o → Stays None None w (changed_scope w s f o)
  changed_stays w s f None e = stays_refl None None w
  changed_stays w s f (Some x) e = put_stays w s x (f x) e

  pub change_stays : (w : State K) (s : ℕ) (f : Scope K → Scope K) → Stays None None w (change w s f)
  change_stays w s f = changed_stays w s f (at w.scopes s) refl

  pub posts_stays : (w v : State K) → Posts w v → Stays None None w v
  posts_stays w v f =
      let scopes : v.scopes ≡ w.scopes = ap (λ (x : State K). x.scopes) f.alike in
      let tasks : v.tasks ≡ w.tasks = ap (λ (x : State K). x.tasks) f.alike in
      let comes : (s : ℕ) → is_live v s ≡ true → is_live w s ≡ true = λ s h. ap (λ (es : List (ℕ × Scope K)). is_some (at es s)) (sym scopes) ∙ h in
      record {
        comes = λ s p h. comes s h;
        runs =
            λ s p h live.
            elim (h (comes s live)) [
              | inl a ↦ inl (f.keeps (Mark s) a)
              | inr a ↦ inr (ap (λ (xs : List ℕ). has xs s) (ap (λ (x : State K). x.seen) f.alike) ∙ a)
            ];
        polls =
            λ t p h active.
            elim (h (ap (λ (es : List (ℕ × TaskRow K)). elim (at es t) as (λ z. Bool) [ None ↦ false | Some x ↦ x.active ]) (sym tasks) ∙ active)) [
              | inl a ↦ inl (f.keeps (Woken t) a)
              | inr a ↦ inr (ap (λ (xs : List ℕ). has xs t) (ap (λ (x : State K). x.queued) f.alike) ∙ a)
            ];
      }

  pub post_stays : (w : State K) (p : Posted) → Stays None None w (post w p)
  post_stays w p = posts_stays w (post w p) (post_posts w p)

  pub tell_stays : (w : State K) (i : Source) → Stays None None w (tell w i)
  tell_stays w i = posts_stays w (tell w i) (tell_posts w i)

  -- a change, and then its readers are told
  told_stays : (w u : State K) (i : Source) → Stays None None w u → Stays None None w (tell u i)
  told_stays w u i f = stays_then None None w u (tell u i) f (tell_stays u i)

  -- other parts change
  pub rest_stays : (w v : State K) → v.scopes ≡ w.scopes → v.tasks ≡ w.tasks → v.posted ≡ w.posted → v.seen ≡ w.seen → v.queued ≡ w.queued → Stays None None w v
  rest_stays w v scopes tasks posted seen queued =
      quiet w v (λ s h. ap (λ (es : List (ℕ × Scope K)). is_some (at es s)) (sym scopes) ∙ h) tasks posted seen queued

  -- tasks

  abbrev active_in : Option (TaskRow K) → Bool
  active_in o = elim o as (λ z. Bool) [ None ↦ false | Some x ↦ x.active ]

  -- a task's row changes: it stays as active as it was, or it has a wake, or it isn't one that is spoken of
  pub task_put : (passed : Option ℕ) (w : State K) (t : ℕ) (y : TaskRow K) → (is_it passed t ≡ false → y.active ≡ true → is_active w t ≡ true) → Stays None passed w (record w { tasks = put w.tasks t y })
  task_put passed w t y h =
      record {
        comes = λ s p g. g;
        runs = λ s p g. g;
        polls =
            λ u p g active.
            by_test (nat_eq t u)
            (
            λ q.
            let same : t ≡ u = eqb-true t u q in
            let other : is_it passed t ≡ false = ap (λ (n : ℕ). is_it passed n) same ∙ p in
            let now : y.active ≡ true = sym (ap (λ (o : Option (TaskRow K)). active_in o) (at_put_here w.tasks t y u q)) ∙ active in
            g (subst (λ (n : ℕ). is_active w n ≡ true) same (h other now))
            )
            (λ q. g (ap (λ (o : Option (TaskRow K)). active_in o) (sym (at_put_other w.tasks t y u q)) ∙ active));
      }

  -- a task that has a wake may change
  woken_put : (w v : State K) (t : ℕ) → ((u : ℕ) → nat_eq t u ≡ false → at v.tasks u ≡ at w.tasks u) → v.scopes ≡ w.scopes → v.posted ≡ w.posted → v.seen ≡ w.seen → v.queued ≡ w.queued
      → is_some (at v.tasks t) ≡ true → Stays None None w (post v (Woken t))
  woken_put w v t others scopes posted seen queued there =
      let u : State K = post v (Woken t) in
      let is : u ≡ record v { posted = v.posted ++ Woken t ∷ [] } = pick_true (record v { posted = v.posted ++ Woken t ∷ [] }) v there in
      subst (λ (x : State K). Stays None None w x) (sym is)
      (record {
        comes = λ s p h. ap (λ (es : List (ℕ × Scope K)). is_some (at es s)) (sym scopes) ∙ h;
        runs =
            λ s p h live.
            more_marked s (h (ap (λ (es : List (ℕ × Scope K)). is_some (at es s)) (sym scopes) ∙ live));
        polls =
            λ x p h active.
            by_test (nat_eq t x)
            (λ q. inl (posted_last v.posted (Woken t ∷ []) (Woken x) (inl (ap (λ (n : ℕ). Woken n) (eqb-true t x q)))))
            (λ q. more_woken x (h (ap (λ (o : Option (TaskRow K)). active_in o) (sym (others x q)) ∙ active)));
      })
    where
      more_marked : (s : ℕ) → IsMarked w s → IsMarked (record v { posted = v.posted ++ Woken t ∷ [] }) s
      more_marked s (inl h) = inl (posted_first v.posted (Woken t ∷ []) (Mark s) (subst (λ (ps : List Posted). IsPosted ps (Mark s)) (sym posted) h))
      more_marked s (inr h) = inr (ap (λ (xs : List ℕ). has xs s) seen ∙ h)

      more_woken : (x : ℕ) → IsWoken w x → IsWoken (record v { posted = v.posted ++ Woken t ∷ [] }) x
      more_woken x (inl h) = inl (posted_first v.posted (Woken t ∷ []) (Woken x) (subst (λ (ps : List Posted). IsPosted ps (Woken x)) (sym posted) h))
      more_woken x (inr h) = inr (ap (λ (xs : List ℕ). has xs x) queued ∙ h)

  pub appended_there : (es : List (ℕ × TaskRow K)) (t : ℕ) (y : TaskRow K) → is_some (at (es ++ (t, y) ∷ []) t) ≡ true
  appended_there [] t y = ap (λ (o : Option (TaskRow K)). is_some o) (at_here t y [] t (eq_same t))
  appended_there (e ∷ es) t y =
      by_test (nat_eq e.0 t)
      (λ q. ap (λ (o : Option (TaskRow K)). is_some o) (at_here e.0 e.1 (es ++ (t, y) ∷ []) t q))
      (λ q. ap (λ (o : Option (TaskRow K)). is_some o) (at_there e.0 e.1 (es ++ (t, y) ∷ []) t q) ∙ appended_there es t y)

  spawned_stays : (w : State K) (polled : Option ℕ) (scope t : ℕ) (a : K.TaskState) (isomorphic : Bool) → Stays None None w (spawned w polled scope t a isomorphic)
  spawned_stays w polled scope t a isomorphic =
      let row : TaskRow K = record { scope = scope; parent = polled; state = a; active = true; kind = if isomorphic then Isomorphic else ClientOnly } in
      let v : State K = record w { tasks = w.tasks ++ (t, row) ∷ [] } in
      stays_if None None w (post v (Woken t)) w (is_live w scope)
      (woken_put w v t (λ u q. at_append_none w.tasks t row u q) refl refl refl refl (appended_there w.tasks t row))
      (stays_refl None None w)

  activated_stays : (w : State K) (t : ℕ) (active : Bool) (o : Option (TaskRow K)) → at w.tasks t ≡ o → Stays None None w (activated w t active o)
  activated_stays w t active None e = stays_refl None None w
  activated_stays w t active (Some x) e = by active x.active refl
    where
      by : (b c : Bool) → x.active ≡ c → Stays None None w (if b && not c then post (record w { tasks = put w.tasks t (record x { active = b }) }) (Woken t) else record w { tasks = put w.tasks t (record x { active = b }) })
      by true true h = task_put None w t (record x { active = true }) (λ p q. ap (λ (z : Option (TaskRow K)). active_in z) e ∙ h)
      by true false h =
          let row : TaskRow K = record x { active = true } in
          let v : State K = record w { tasks = put w.tasks t row } in
          woken_put w v t (λ u q. at_put_other w.tasks t row u q) refl refl refl refl
          (ap (λ (z : Option (TaskRow K)). is_some z) (at_put_here w.tasks t row t (eq_same t)))
      by false c h = task_put None w t (record x { active = false }) (λ p q. clash q refl)

  released_live : (es : List (ℕ × Scope K)) (t s : ℕ) → is_some (at (released es t) s) ≡ true → is_some (at es s) ≡ true
  released_live [] t s h = h
  released_live (e ∷ es) t s h =
      by_test (nat_eq e.0 s)
      (λ q. ap (λ (o : Option (Scope K)). is_some o) (at_here e.0 e.1 es s q))
      (
      λ q.
      ap (λ (o : Option (Scope K)). is_some o) (at_there e.0 e.1 es s q)
      ∙ released_live es t s
      (ap (λ (o : Option (Scope K)). is_some o) (sym (at_there e.0 (record (e.1) { holders = kept_by (λ h. not (nat_eq h.0 t)) (e.1).holders }) (released es t) s q)) ∙ h)
      )

  pub end_stays : (w : State K) (t : ℕ) → Stays None None w (end w t)
  end_stays w t =
      let v : State K = record w {
        tasks = without w.tasks t;
        posted = drop_posted w.posted (Woken t) ++ holding w.scopes t;
        queued = drop_number w.queued t;
        scopes = released w.scopes t;
      } in
      stays_if None None w v w (is_some (at w.tasks t))
      (record {
        comes = λ s p h. released_live w.scopes t s h;
        runs =
            λ s p h live.
            elim (h (released_live w.scopes t s live)) [
              | inl a ↦ inl (posted_first (drop_posted w.posted (Woken t)) (holding w.scopes t) (Mark s) (posted_stays w.posted (Woken t) (Mark s) refl a))
              | inr a ↦ inr a
            ];
        polls =
            λ u p h active.
            by_test (nat_eq t u)
            (λ q. clash active (ap (λ (o : Option (TaskRow K)). active_in o) (at_without_here w.tasks t u q)))
            (
            λ q.
            elim (h (ap (λ (o : Option (TaskRow K)). active_in o) (sym (at_without_other w.tasks t u q)) ∙ active)) [
              | inl a ↦ inl (posted_first (drop_posted w.posted (Woken t)) (holding w.scopes t) (Woken u) (posted_stays w.posted (Woken t) (Woken u) (turned_round t u q) a))
              | inr a ↦ inr (number_stays w.queued t u q a)
            ]
            );
      })
      (stays_refl None None w)

  -- a scope's marks go, a task's wakes go

  pub unmarked_stays : (w : State K) (s : ℕ) → Stays (Some s) None w (unmarked w s)
  unmarked_stays w s =
      record {
        comes = λ t p h. h;
        runs =
            λ t p h live.
            elim (h live) [
              | inl a ↦ inl (posted_stays w.posted (Mark s) (Mark t) (turned_round s t p) a)
              | inr a ↦ inr (number_stays w.seen s t p a)
            ];
        polls = λ t p h active. elim (h active) [ inl a ↦ inl (posted_stays w.posted (Mark s) (Woken t) refl a) | inr a ↦ inr a ];
      }

  pub unqueued_stays : (w : State K) (t : ℕ) → Stays None (Some t) w (unqueued w t)
  unqueued_stays w t =
      record {
        comes = λ s p h. h;
        runs = λ s p h live. elim (h live) [ inl a ↦ inl (posted_stays w.posted (Woken t) (Mark s) refl a) | inr a ↦ inr a ];
        polls =
            λ u p h active.
            elim (h active) [
              | inl a ↦ inl (posted_stays w.posted (Woken t) (Woken u) (turned_round t u p) a)
              | inr a ↦ inr (number_stays w.queued t u p a)
            ];
      }

  -- commands

  pub written_stays : (w : State K) (n : ℕ) (v : K.Value) (o : Option (CellRow K)) → Stays None None w (written_at w n v o)
  written_stays w n v None = stays_refl None None w
  written_stays w n v (Some old) =
      let u : State K = record w { cells = put w.cells n (record old { value = v }) } in
      told_stays w u (Cell n) (rest_stays w u refl refl refl refl refl)

  dropped_stays : (w : State K) (n : ℕ) → Stays None None w (drop_cell_row w n)
  dropped_stays w n =
      let u : State K = record w { cells = without w.cells n } in
      stays_if None None w (tell u (Cell n)) w (is_some (at w.cells n)) (told_stays w u (Cell n) (rest_stays w u refl refl refl refl refl)) (stays_refl None None w)

  caught_stays : (w : State K) (e : CapturedError) (b : ℕ) (o : Option CapturedError) → Stays None None w (caught_at w e b o)
  caught_stays w e b (Some old) = stays_refl None None w
  caught_stays w e b None =
      told_stays w (change w b (λ x. record x { error = Some e })) (Error b) (change_stays w b (λ x. record x { error = Some e }))

  thrown_at_stays : (w : State K) (e : CapturedError) (b : ℕ) (o : Option (Scope K)) → Stays None None w (elim o as (λ z. State K) [ None ↦ w | Some x ↦ caught_at w e b x.error ])
  thrown_at_stays w e b None = stays_refl None None w
  thrown_at_stays w e b (Some x) = caught_stays w e b x.error

  thrown_stays : (w : State K) (e : CapturedError) (o : Option ℕ) → Stays None None w (thrown_to w e o)
  thrown_stays w e None = stays_refl None None w
  thrown_stays w e (Some b) = thrown_at_stays w e b (at w.scopes b)

  pub throw_stays : (w : State K) (s : ℕ) (e : CapturedError) → Stays None None w (throw_error w s e)
  throw_stays w s e = thrown_stays w e (error_context w s)

  cleared_stays : (w : State K) (o : Option ℕ) → Stays None None w (cleared_at w o)
  cleared_stays w None = stays_refl None None w
  cleared_stays w (Some b) =
      told_stays w (change w b (λ x. record x { error = None })) (Error b) (change_stays w b (λ x. record x { error = None }))

  registered_stays : (w : State K) (s : ℕ) (e : K.Effect) (o : Option ℕ) → Stays None None w (registered w s e o)
  registered_stays w s e None = stays_refl None None w
  registered_stays w s e (Some b) = change_stays w b (λ x. record x { callbacks = x.callbacks ++ (s, e) ∷ [] })

  frozen_stays : (w : State K) (o : Option ℕ) → Stays None None w (frozen_at w o)
  frozen_stays w None = stays_refl None None w
  frozen_stays w (Some b) = change_stays w b (λ x. record x { frozen = true })

  context_stays : (w : State K) (n : ℕ) (f : ContextRow K → ContextRow K) (o : Option (ContextRow K)) → Stays None None w (elim o as (λ z. State K) [ None ↦ w | Some x ↦ record w { contexts = put w.contexts n (f x) } ])
  context_stays w n f None = stays_refl None None w
  context_stays w n f (Some x) = rest_stays w (record w { contexts = put w.contexts n (f x) }) refl refl refl refl refl

  module _ (app : Application K) where
    provided_stays : (w : State K) (s k : ℕ) (v : K.Value) (o : Option K.Value) → Stays None None w (provided_at app w s k v o)
    provided_stays w s k v None =
        told_stays w (change w s (λ x. record x { contexts = put x.contexts k v })) (Context k s) (change_stays w s (λ x. record x { contexts = put x.contexts k v }))
    provided_stays w s k v (Some old) =
        let u : State K = change w s (λ x. record x { contexts = put x.contexts k v }) in
        let kept : Stays None None w u = change_stays w s (λ x. record x { contexts = put x.contexts k v }) in
        stays_if None None w u (tell u (Context k s)) (app.same_value old v) kept (told_stays w u (Context k s) kept)

    provide_stays : (w : State K) (s k : ℕ) (v : K.Value) (o : Option (Scope K)) → Stays None None w (elim o as (λ z. State K) [ None ↦ w | Some x ↦ provided_at app w s k v (at x.contexts k) ])
    provide_stays w s k v None = stays_refl None None w
    provide_stays w s k v (Some x) = provided_stays w s k v (at x.contexts k)

    command_stays : (w : State K) (s : ℕ) (polled : Option ℕ) (c : Command K) → Stays None None w (command app w s polled c)
    command_stays w s polled (KeepHook h) = change_stays w s (λ x. record x { hooks = x.hooks ++ h ∷ [] })
    command_stays w s polled (NewCell n v) =
        let u : State K = record w { cells = w.cells ++ (n, record { owner = s; value = v }) ∷ [] } in
        stays_if None None w u w (is_live w s) (rest_stays w u refl refl refl refl refl) (stays_refl None None w)
    command_stays w s polled (Write n v) = written_stays w n v (at w.cells n)
    command_stays w s polled (DropCell n) = dropped_stays w n
    command_stays w s polled (NewContext n target) =
        let u : State K = record w { contexts = w.contexts ++ (n, record { scope = s; target = target; sources = [] }) ∷ [] } in
        stays_if None None w u w (is_live w s) (rest_stays w u refl refl refl refl refl) (stays_refl None None w)
    command_stays w s polled (Reset n) = context_stays w n (λ x. record x { sources = [] }) (at w.contexts n)
    command_stays w s polled (ReadInto n source) = context_stays w n (λ x. record x { sources = one_more_source x.sources source }) (at w.contexts n)
    command_stays w s polled (Spawn t a forever isomorphic) = spawned_stays w polled (if forever then 0 else s) t a isomorphic
    command_stays w s polled (RemoveFuture t) = end_stays w t
    command_stays w s polled (Wake t) = post_stays w (Woken t)
    command_stays w s polled (SetActive t active) = activated_stays w t active (at w.tasks t) refl
    command_stays w s polled (QueueEffect e) = change_stays w s (λ x. record x { effects = x.effects ++ e ∷ [] })
    command_stays w s polled (Provide root k v) =
        let r : ℕ = if root then 0 else s in provide_stays w r k v (at w.scopes r)
    command_stays w s polled (Update n) = post_stays w (Mark n)
    command_stays w s polled (Throw e) = throw_stays w s e
    command_stays w s polled ClearErrors = cleared_stays w (error_context w s)
    command_stays w s polled (Resolved e) = registered_stays w s e (suspense_context w s)
    command_stays w s polled Freeze = frozen_stays w (suspense_context w s)

    pub commands_stay : (w : State K) (s : ℕ) (polled : Option ℕ) (cs : List (Command K)) → Stays None None w (commands app w s polled cs)
    commands_stay w s polled [] = stays_refl None None w
    commands_stay w s polled (c ∷ cs) =
        stays_then None None w (command app w s polled c) (commands app (command app w s polled c) s polled cs)
        (command_stays w s polled c) (commands_stay (command app w s polled c) s polled cs)
