-- What changes of tasks leave, and sources that are told one after another.
use Rattle.std.proofs.Common.{ℕ, ◌+◌, Bool, true, false, ◌&&◌, not, List, [], ◌∷◌, ◌++◌, ◌≡◌, inl, inr, refl, sym, ap, ◌∙◌, subst, nat_eq}
use Rattle.std.specs.Prelude.{Option, Some, is_some, if◌then◌else◌}
use Rattle.std.proofs.lemmas.Bool.{eqb-true}
use Rattle.rt_model.specs.Lists.{at, put, without, drop_number}
use Rattle.rt_model.specs.Tree.{Types}
use Rattle.rt_model.specs.World.{Source, Cell, Error, Context, same_source, TaskTarget, World}
use Rattle.rt_model.specs.State.{Woken, CellRow, ContextRow, TaskRow, State}
use Rattle.rt_model.specs.Commands.{drop_posted, holding, released, names_source, post, tell, activated}
use Rattle.rt_model.specs.Removal.{tell_all}
use Rattle.rt_model.proofs.Maps.{by_test, pick_true, eq_same, at_put_here, at_put_other, at_put_none, at_without_none, at_without_here, at_without_other, at_append_none}
use Rattle.rt_model.proofs.Members.{clash, turned_round, number_stays, by_either}
use Rattle.rt_model.proofs.SameTrees.{source_tests}
use Rattle.law_behavior.specs.Marking.{IsPosted}
use Rattle.law_behavior.specs.Owed.{IsWoken, OwesPoll}
use Rattle.law_behavior.proofs.Readers.{Posts, posted_first, posted_last, post_posts, tell_posts, tell_readers}
use Rattle.law_behavior.proofs.Stays.{posted_stays}
use Rattle.law_minding.proofs.Writes.{owes_on}
use Rattle.law_minding.proofs.Values.{equal_le, active_in, released_error, released_context, released_live}
use Rattle.law_minding.proofs.Since.{Low, Passes, low_then, posts_low, wakes}

module _ {K : Types} where
  -- a wake that is posted for who is there
  pub posted_now : (v : State K) (u : ℕ) → is_some (at v.tasks u) ≡ true → IsPosted (post v (Woken u)).posted (Woken u)
  posted_now v u there =
      subst (λ (z : State K). IsPosted z.posted (Woken u)) (sym (pick_true (record v { posted = v.posted ++ Woken u ∷ [] }) v there))
      (posted_last v.posted (Woken u ∷ []) (Woken u) (inl refl))

module _ {K : Types} (last : World K) (t n cell scope : ℕ) (held : CellRow K) (place : K.TaskState) (polled : Bool) (reads : ContextRow K) (target : reads.target ≡ TaskTarget t) (home : reads.scope ≡ scope) where
  pub task_passes : (w : State K) (u : ℕ) (x y : TaskRow K) → at w.tasks u ≡ Some x → y.scope ≡ x.scope → (nat_eq u t ≡ true → y.state ≡ x.state) → (y.active ≡ true → x.active ≡ true) → Passes last t n cell scope held place polled reads target home w (record w { tasks = put w.tasks u y })
  task_passes w u x y e scope_is state_is active_is =
      record {
        low = equal_le w.next.tasks w.next.tasks refl;
        none = λ gone. at_put_none w.tasks u y x t e gone;
        row =
            λ z there.
            by_test (nat_eq u t)
            (
            λ q.
            let found_row : Some x ≡ Some z = sym e ∙ ap (λ (m : ℕ). at w.tasks m) (eqb-true u t q) ∙ there in
            let same : x ≡ z = cc in
            inr (y, at_put_here w.tasks u y t q, scope_is ∙ ap (λ (r : TaskRow K). r.scope) same, state_is q ∙ ap (λ (r : TaskRow K). r.state) same)
            )
            (λ q. inr (z, at_put_other w.tasks u y t q ∙ there, refl, refl));
        lives = λ there. there;
        holds = λ there. there;
        context = λ there. there;
        owes =
            λ h active.
            by_test (nat_eq u t)
            (
            λ q.
            let now : y.active ≡ true = sym (ap (λ (o : Option (TaskRow K)). active_in o) (at_put_here w.tasks u y t q)) ∙ active in
            h (ap (λ (o : Option (TaskRow K)). active_in o) (ap (λ (m : ℕ). at w.tasks m) (sym (eqb-true u t q)) ∙ e) ∙ active_is now)
            )
            (λ q. h (sym (ap (λ (o : Option (TaskRow K)). active_in o) (at_put_other w.tasks u y t q)) ∙ active));
        told = λ here once i named. inl (same_values i);
      }
    where
      same_values : (i : Source) → Low last t n cell scope held place polled reads target home w (record w { tasks = put w.tasks u y }) i
      same_values (Cell m) = λ low. refl
      same_values (Error r) = refl
      same_values (Context k r) = refl

  -- a task that is resumed has a wake
  resumed_passes : (w : State K) (u : ℕ) (x y : TaskRow K) → at w.tasks u ≡ Some x → y.scope ≡ x.scope → y.state ≡ x.state → Passes last t n cell scope held place polled reads target home w (post (record w { tasks = put w.tasks u y }) (Woken u))
  resumed_passes w u x y e scope_is state_is =
      record {
        low = equal_le w.next.tasks (post v (Woken u)).next.tasks (ap (λ (z : State K). z.next.tasks) posts.alike);
        none = λ gone. ap (λ (z : State K). at z.tasks t) posts.alike ∙ at_put_none w.tasks u y x t e gone;
        row =
            λ z there.
            by_test (nat_eq u t)
            (
            λ q.
            let found_row : Some x ≡ Some z = sym e ∙ ap (λ (m : ℕ). at w.tasks m) (eqb-true u t q) ∙ there in
            let same : x ≡ z = cc in
            inr (
              y,
              ap (λ (r : State K). at r.tasks t) posts.alike ∙ at_put_here w.tasks u y t q,
              scope_is ∙ ap (λ (r : TaskRow K). r.scope) same,
              state_is ∙ ap (λ (r : TaskRow K). r.state) same,
            )
            )
            (λ q. inr (z, ap (λ (r : State K). at r.tasks t) posts.alike ∙ at_put_other w.tasks u y t q ∙ there, refl, refl));
        lives = λ there. ap (λ (z : State K). is_some (at z.scopes scope)) posts.alike ∙ there;
        holds = λ there. ap (λ (z : State K). at z.cells cell) posts.alike ∙ there;
        context = λ there once. ap (λ (z : State K). at z.contexts n) posts.alike ∙ there once;
        owes =
            λ h active.
            by_test (nat_eq u t)
            (λ q. inl (subst (λ (m : ℕ). IsPosted (post v (Woken u)).posted (Woken m)) (eqb-true u t q) woken))
            (
            λ q.
            owes_on v (post v (Woken u)) t posts
            (λ there. h (sym (ap (λ (o : Option (TaskRow K)). active_in o) (at_put_other w.tasks u y t q)) ∙ there))
            active
            );
        told = λ here once i named. inl (low_then last t n cell scope held place polled reads target home w v (post v (Woken u)) i (same_values i) (posts_low last t n cell scope held place polled reads target home v (post v (Woken u)) posts i));
      }
    where
      v : State K
      v = record w { tasks = put w.tasks u y }

      posts : Posts v (post v (Woken u))
      posts = post_posts v (Woken u)

      there_is : is_some (at v.tasks u) ≡ true
      there_is = ap (λ (o : Option (TaskRow K)). is_some o) (at_put_here w.tasks u y u (eq_same u))

      woken : IsPosted (post v (Woken u)).posted (Woken u)
      woken = posted_now v u there_is

      same_values : (i : Source) → Low last t n cell scope held place polled reads target home w v i
      same_values (Cell m) = λ low. refl
      same_values (Error r) = refl
      same_values (Context k r) = refl

  pub activated_passes : (w : State K) (u : ℕ) (active : Bool) (x : TaskRow K) → at w.tasks u ≡ Some x → Passes last t n cell scope held place polled reads target home w (activated w u active (Some x))
  activated_passes w u active x e = by active x.active refl
    where
      by : (b c : Bool) → x.active ≡ c
          → Passes last t n cell scope held place polled reads target home w (if b && not c then post (record w { tasks = put w.tasks u (record x { active = b }) }) (Woken u) else record w { tasks = put w.tasks u (record x { active = b }) })
      by true true h = task_passes w u x (record x { active = true }) e refl (λ q. refl) (λ g. h)
      by true false h = resumed_passes w u x (record x { active = true }) e refl refl
      by false c h = task_passes w u x (record x { active = false }) e refl (λ q. refl) (λ g. clash g refl)

  -- a task is spawned, which isn't this one
  pub spawned_passes : (w : State K) (u : ℕ) (y : TaskRow K) → nat_eq u t ≡ false → Passes last t n cell scope held place polled reads target home w (record w { tasks = w.tasks ++ (u, y) ∷ [] })
  spawned_passes w u y other =
      record {
        low = equal_le w.next.tasks w.next.tasks refl;
        none = λ gone. at_append_none w.tasks u y t other ∙ gone;
        row = λ x e. inr (x, at_append_none w.tasks u y t other ∙ e, refl, refl);
        lives = λ e. e;
        holds = λ e. e;
        context = λ e. e;
        owes = λ h active. h (sym (ap (λ (o : Option (TaskRow K)). active_in o) (at_append_none w.tasks u y t other)) ∙ active);
        told = λ here once i e. inl (same_values i);
      }
    where
      same_values : (i : Source) → Low last t n cell scope held place polled reads target home w (record w { tasks = w.tasks ++ (u, y) ∷ [] }) i
      same_values (Cell m) = λ low. refl
      same_values (Error r) = refl
      same_values (Context k r) = refl

  -- a task ends
  pub ended_passes : (w : State K) (u : ℕ)
      → Passes last t n cell scope held place polled reads target home w (record w { tasks = without w.tasks u; posted = drop_posted w.posted (Woken u) ++ holding w.scopes u; queued = drop_number w.queued u; scopes = released w.scopes u })
  ended_passes w u =
      record {
        low = equal_le w.next.tasks w.next.tasks refl;
        none = λ gone. at_without_none w.tasks u t gone;
        row = λ x e. by_test (nat_eq u t) (λ q. inl (at_without_here w.tasks u t q)) (λ q. inr (x, at_without_other w.tasks u t q ∙ e, refl, refl));
        lives = λ e. released_live u w.scopes scope e;
        holds = λ e. e;
        context = λ e. e;
        owes =
            λ h active.
            by_test (nat_eq u t)
            (λ q. clash active (ap (λ (o : Option (TaskRow K)). active_in o) (at_without_here w.tasks u t q)))
            (
            λ q.
            elim (h (ap (λ (o : Option (TaskRow K)). active_in o) (sym (at_without_other w.tasks u t q)) ∙ active)) as (λ z. IsWoken v t) [
              | inl a ↦ inl (posted_first (drop_posted w.posted (Woken u)) (holding w.scopes u) (Woken t) (posted_stays w.posted (Woken u) (Woken t) (turned_round u t q) a))
              | inr b ↦ inr (number_stays w.queued u t q b)
            ]
            );
        told = λ here once i e. inl (same_values i);
      }
    where
      v : State K
      v = record w { tasks = without w.tasks u; posted = drop_posted w.posted (Woken u) ++ holding w.scopes u; queued = drop_number w.queued u; scopes = released w.scopes u }

      same_values : (i : Source) → Low last t n cell scope held place polled reads target home w v i
      same_values (Cell m) = λ low. refl
      same_values (Error r) = released_error u w.scopes r
      same_values (Context k r) = released_context u k w.scopes r

  -- sources that are told one after another
  posts_after : (u v w : State K) → Posts u v → Posts v w → Posts u w
  posts_after u v w f g =
      record { alike = g.alike ∙ ap (λ (x : State K). record x { posted = w.posted }) f.alike; keeps = λ p h. g.keeps p (f.keeps p h) }

  pub all_post : (xs : List Source) (w : State K) → Posts w (tell_all w xs)
  all_post [] w = record { alike = refl; keeps = λ p h. h }
  all_post (x ∷ xs) w = posts_after w (tell w x) (tell_all (tell w x) xs) (tell_posts w x) (all_post xs (tell w x))

  -- where one of them was read into the context the task is owed a poll
  pub all_wake : (xs : List Source) (w : State K) (x : TaskRow K) (i : Source) → at w.contexts n ≡ Some reads → at w.tasks t ≡ Some x
      → names_source reads.sources i ≡ true
      → names_source xs i ≡ true
      → OwesPoll (tell_all w xs) t
  all_wake [] w x i context is named h = clash h refl
  all_wake (y ∷ ys) w x i context is named h =
      let v : State K = tell w y in
      let posts = tell_posts w y in
      by_either (same_source y i) (names_source ys i) h
      (
      λ q.
      let same : names_source reads.sources y ≡ true = ap (λ (j : Source). names_source reads.sources j) (source_tests.0 y i q) ∙ named in
      owes_on v (tell_all v ys) t (all_post ys v) (λ active. inl ((tell_readers w y).contexts n reads (Woken t) context same (wakes last t n cell scope held place polled reads target home w x is)))
      )
      (
      λ q.
      all_wake ys v x i (ap (λ (z : State K). at z.contexts n) posts.alike ∙ context) (ap (λ (z : State K). at z.tasks t) posts.alike ∙ is) named q
      )
