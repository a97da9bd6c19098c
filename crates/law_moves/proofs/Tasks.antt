-- A task that ends, one whose record changes, and one that is spawned: calm changes.
use Rattle.std.proofs.Common.{ℕ, Bool, true, false, List, [], ◌∷◌, ◌++◌, ◌≡◌, ◌⊎◌, ◌&&◌, ◌||◌, not, refl, sym, ap, ◌∙◌, subst, nat_eq, inl, inr}
use Rattle.std.proofs.lemmas.Bool.{eqb-true}
use Rattle.std.specs.Prelude.{Option, Some, None, if◌then◌else◌, is_some}
use Rattle.std.specs.List.{AllByRecursion, list_any}
use Rattle.rt_model.specs.Lists.{at, put, without, kept_by, drop_number}
use Rattle.rt_model.specs.Tree.{Types}
use Rattle.rt_model.specs.World.{Source, Cell, Error, Context}
use Rattle.rt_model.specs.State.{Woken, ClientOnly, Isomorphic, Scope, TaskRow, State, is_live, is_held, holds}
use Rattle.rt_model.specs.Commands.{drop_posted, holding, post, released, end, activated, spawned}
use Rattle.rt_model.proofs.Maps.{by_test, at_here, at_there, at_put_here, at_put_other, at_without_other, none_some}
use Rattle.rt_model.proofs.Members.{clash, turned_round, number_left}
use Rattle.law_moves.specs.Heeds.{HasMark, leavings, Marked, SameOf}
use Rattle.law_moves.proofs.Marks.{mark_first, mark_last, mark_stays}
use Rattle.law_moves.proofs.Told.{post_quiet}
use Rattle.law_moves.proofs.Calm.{error_of, context_of, holders_of, mark_where, held_by, same_scope, HoldersLive, Unique, listed_same, Calm, calm_if, calm_refl, Quiet, quiet_then, quiet_if, quiet_refl, no_fall}

-- a task that isn't among the holders is none of those that go
none_go : (hs : List (ℕ × ℕ)) (t : ℕ) → list_any (λ h. nat_eq h.0 t) hs ≡ false → kept_by (λ h. not (nat_eq h.0 t)) hs ≡ hs
none_go [] t q = refl
none_go (h ∷ hs) t q = first (nat_eq h.0 t) q (λ p. none_go hs t p)
  where
    first : (b : Bool) → b || list_any (λ d. nat_eq d.0 t) hs ≡ false → (list_any (λ d. nat_eq d.0 t) hs ≡ false → kept_by (λ d. not (nat_eq d.0 t)) hs ≡ hs)
        → (if not b then h ∷ kept_by (λ d. not (nat_eq d.0 t)) hs else kept_by (λ d. not (nat_eq d.0 t)) hs) ≡ h ∷ hs
    first true p go = clash refl p
    first false p go = ap (λ (ys : List (ℕ × ℕ)). h ∷ ys) (go p)

module _ {K : Types} where
  abbrev released_from : ℕ → Scope K → Scope K
  released_from t x = record x { holders = kept_by (λ h. not (nat_eq h.0 t)) x.holders }

  released_by : {A : Type 0} (f : Option (Scope K) → A) (es : List (ℕ × Scope K)) (t s : ℕ) → ((x : Scope K) → f (Some (released_from t x)) ≡ f (Some x)) → f (at (released es t) s) ≡ f (at es s)
  released_by f [] t s h = refl
  released_by f (e ∷ es) t s h =
      by_test (nat_eq e.0 s)
      (λ q. ap f (at_here e.0 (released_from t e.1) (released es t) s q) ∙ h e.1 ∙ ap f (sym (at_here e.0 e.1 es s q)))
      (λ q. ap f (at_there e.0 (released_from t e.1) (released es t) s q) ∙ released_by f es t s h ∙ ap f (sym (at_there e.0 e.1 es s q)))

  released_holders : (es : List (ℕ × Scope K)) (t s : ℕ) → holders_of (at (released es t) s) ≡ kept_by (λ h. not (nat_eq h.0 t)) (holders_of (at es s))
  released_holders [] t s = refl
  released_holders (e ∷ es) t s =
      by_test (nat_eq e.0 s)
      (
      λ q.
      ap (λ (o : Option (Scope K)). holders_of o) (at_here e.0 (released_from t e.1) (released es t) s q)
      ∙ ap (λ (o : Option (Scope K)). kept_by (λ h. not (nat_eq h.0 t)) (holders_of o)) (sym (at_here e.0 e.1 es s q))
      )
      (
      λ q.
      ap (λ (o : Option (Scope K)). holders_of o) (at_there e.0 (released_from t e.1) (released es t) s q)
      ∙ released_holders es t s
      ∙ ap (λ (o : Option (Scope K)). kept_by (λ h. not (nat_eq h.0 t)) (holders_of o)) (sym (at_there e.0 e.1 es s q))
      )

  holding_marked : (es : List (ℕ × Scope K)) (t s : ℕ) (x : Scope K) → at es s ≡ Some x → holds x t ≡ true → HasMark (holding es t) s
  holding_marked [] t s x live h = none_some refl live
  holding_marked (e ∷ es) t s x live h =
      by_test (nat_eq e.0 s)
      (
      λ q.
      let same : e.1 ≡ x = same_scope e.1 x (sym (at_here e.0 e.1 es s q) ∙ live) in
      mark_where (holds e.1 t) e.0 s (holding es t) (inr (ap (λ (y : Scope K). holds y t) same ∙ h, eqb-true e.0 s q))
      )
      (λ q. mark_where (holds e.1 t) e.0 s (holding es t) (inl (holding_marked es t s x (sym (at_there e.0 e.1 es s q) ∙ live) h)))

  -- the others are live after the task has ended
  left_live : (ts : List (ℕ × TaskRow K)) (t : ℕ) (hs : List (ℕ × ℕ)) → AllByRecursion (λ (h : ℕ × ℕ). is_some (at ts h.0) ≡ true) hs
      → AllByRecursion (λ (h : ℕ × ℕ). is_some (at (without ts t) h.0) ≡ true) (kept_by (λ h. not (nat_eq h.0 t)) hs)
  left_live ts t [] live = tt
  left_live ts t (h ∷ hs) live =
      by_test (nat_eq h.0 t)
      (
      λ q.
      subst (λ (b : Bool). AllByRecursion (λ (d : ℕ × ℕ). is_some (at (without ts t) d.0) ≡ true) (if not b then h ∷ kept_by (λ d. not (nat_eq d.0 t)) hs else kept_by (λ d. not (nat_eq d.0 t)) hs)) (sym q)
      (left_live ts t hs live.1)
      )
      (
      λ q.
      subst (λ (b : Bool). AllByRecursion (λ (d : ℕ × ℕ). is_some (at (without ts t) d.0) ≡ true) (if not b then h ∷ kept_by (λ d. not (nat_eq d.0 t)) hs else kept_by (λ d. not (nat_eq d.0 t)) hs)) (sym q)
      (ap (λ (o : Option (TaskRow K)). is_some o) (at_without_other ts t h.0 (turned_round h.0 t q)) ∙ live.0, left_live ts t hs live.1)
      )

  no_scope : (o : Option (Scope K)) → is_some o ≡ false → o ≡ None
  no_scope None h = refl
  no_scope (Some x) h = cc

  released_unique : (es : List (ℕ × Scope K)) (t : ℕ) → Unique es → Unique (released es t)
  released_unique [] t h = tt
  released_unique (e ∷ es) t h = (
    no_scope (at (released es t) e.0) (released_by (λ o. is_some o) es t e.0 (λ x. refl) ∙ ap (λ (o : Option (Scope K)). is_some o) h.0),
    released_unique es t h.1,
  )

  -- a task ends: who it held is released and marked
  pub end_calm : (n : ℕ) (w : State K) (t : ℕ) → Calm None n w (end w t)
  end_calm n w t = calm_if None n w v w (is_some (at w.tasks t)) ended (calm_refl None n w)
    where
      v : State K
      v = record w { tasks = without w.tasks t; posted = drop_posted w.posted (Woken t) ++ holding w.scopes t; queued = drop_number w.queued t; scopes = released w.scopes t }

      others : (i : Source) → SameOf w v i
      others (Cell m) = refl
      others (Error s) = sym (released_by (λ o. error_of o) w.scopes t s (λ x. refl))
      others (Context k s) = sym (released_by (λ o. context_of k o) w.scopes t s (λ x. refl))

      still : (s : ℕ) → Marked w s → Marked v s
      still s (inl h) = inl (mark_first (drop_posted w.posted (Woken t)) (holding w.scopes t) s (mark_stays w.posted (Woken t) s refl h))
      still s (inr h) = inr h

      left : (s : ℕ) (x y : Scope K) → at w.scopes s ≡ Some x → at v.scopes s ≡ Some y → (is_held y ≡ is_held x) ⊎ Marked v s
      left s x y e d =
          by_test (holds x t)
          (λ q. inr (inl (mark_last (drop_posted w.posted (Woken t)) (holding w.scopes t) s (holding_marked w.scopes t s x e q))))
          (
          λ q.
          let same : y.holders ≡ x.holders =
          ap (λ (o : Option (Scope K)). holders_of o) (sym d)
          ∙ released_holders w.scopes t s
          ∙ ap (λ (o : Option (Scope K)). kept_by (λ h. not (nat_eq h.0 t)) (holders_of o)) e
          ∙ none_go x.holders t q in
          inl (held_by x y same)
          )

      left_holders : HoldersLive w → HoldersLive v
      left_holders h s =
          subst (λ (hs : List (ℕ × ℕ)). AllByRecursion (λ (d : ℕ × ℕ). is_some (at (without w.tasks t) d.0) ≡ true) hs) (sym (released_holders w.scopes t s))
          (left_live w.tasks t (holders_of (at w.scopes s)) (h s))

      left_unique : (es : List (ℕ × Scope K)) → Unique es → Unique (released es t)
      left_unique es h = released_unique es t h

      ended : Calm None n w v
      ended =
          record {
            heeds =
                record {
                  stays = λ s p. released_by (λ o. leavings o) w.scopes t s (λ x. refl);
                  calls = λ s p. refl;
                  marks = λ s x p e h. still s h;
                  told = λ s x i p e reads low. inl (others i);
                  held = λ s x y p e d. left s x y e d;
                };
            lists = record { seen = λ s p h. inl h; queued = λ u h. let g = number_left w.queued t u h in inl (g.0, λ i. ap (λ (o : Option (TaskRow K)). is_some o) (at_without_other w.tasks t u g.1) ∙ i); passes = λ s p h. h; passed = λ s h. h };
            orderly = λ h. record { holders = left_holders h.holders; unique = left_unique w.scopes h.unique };
            rises = no_fall w;
          }

  -- a task's record changes
  task_there : (ts : List (ℕ × TaskRow K)) (t : ℕ) (x : TaskRow K) (u : ℕ) → is_some (at ts u) ≡ true → is_some (at (put ts t x) u) ≡ true
  task_there ts t x u h =
      by_test (nat_eq t u)
      (λ q. ap (λ (o : Option (TaskRow K)). is_some o) (at_put_here ts t x u q))
      (λ q. ap (λ (o : Option (TaskRow K)). is_some o) (at_put_other ts t x u q) ∙ h)

  pub task_quiet : (w : State K) (t : ℕ) (x : TaskRow K) → Quiet w (record w { tasks = put w.tasks t x })
  task_quiet w t x =
      record { stand = λ s. refl; cells = refl; calls = refl; tasks = λ u h. task_there w.tasks t x u h; lists = listed_same None w (record w { tasks = put w.tasks t x }) refl refl refl (λ u h. task_there w.tasks t x u h); unique = λ h. h; marks = λ s y e h. h; rises = no_fall w }

  pub activated_quiet : (w : State K) (t : ℕ) (active : Bool) (o : Option (TaskRow K)) → Quiet w (activated w t active o)
  activated_quiet w t active None = quiet_refl w
  activated_quiet w t active (Some x) =
      let v : State K = record w { tasks = put w.tasks t (record x { active = active }) } in
      let kept : Quiet w v = task_quiet w t (record x { active = active }) in
      quiet_if w (post v (Woken t)) v (active && not x.active) (quiet_then w v (post v (Woken t)) kept (post_quiet v (Woken t))) kept

  task_joins : (ts : List (ℕ × TaskRow K)) (t : ℕ) (x : TaskRow K) (u : ℕ) → is_some (at ts u) ≡ true → is_some (at (ts ++ (t, x) ∷ []) u) ≡ true
  task_joins [] t x u h = clash h refl
  task_joins (e ∷ ts) t x u h =
      by_test (nat_eq e.0 u)
      (λ q. ap (λ (o : Option (TaskRow K)). is_some o) (at_here e.0 e.1 (ts ++ (t, x) ∷ []) u q))
      (
      λ q.
      ap (λ (o : Option (TaskRow K)). is_some o) (at_there e.0 e.1 (ts ++ (t, x) ∷ []) u q)
      ∙ task_joins ts t x u (ap (λ (o : Option (TaskRow K)). is_some o) (sym (at_there e.0 e.1 ts u q)) ∙ h)
      )

  pub spawned_quiet : (w : State K) (polled : Option ℕ) (scope t : ℕ) (a : K.TaskState) (isomorphic : Bool) → Quiet w (spawned w polled scope t a isomorphic)
  spawned_quiet w polled scope t a isomorphic =
      let row : TaskRow K = record { scope = scope; parent = polled; state = a; active = true; kind = if isomorphic then Isomorphic else ClientOnly } in
      let v : State K = record w { tasks = w.tasks ++ (t, row) ∷ [] } in
      let more : Quiet w v =
      record { stand = λ s. refl; cells = refl; calls = refl; tasks = λ u h. task_joins w.tasks t row u h; lists = listed_same None w v refl refl refl (λ u h. task_joins w.tasks t row u h); unique = λ h. h; marks = λ s y e h. h; rises = no_fall w } in
      quiet_if w (post v (Woken t)) w (is_live w scope) (quiet_then w v (post v (Woken t)) more (post_quiet v (Woken t))) (quiet_refl w)
