-- What is posted and told: calm changes that mark.
use Rattle.std.proofs.Common.{ℕ, Bool, true, false, List, [], ◌∷◌, ◌++◌, ◌≡◌, ◌≤◌, ◌⊎◌, refl, sym, ap, ◌∙◌, subst, nat_eq, arith, inl, inr}
use Rattle.std.proofs.lemmas.Bool.{eqb-true}
use Rattle.std.specs.Prelude.{Option, Some, None, if◌then◌else◌, is_some}
use Rattle.rt_model.specs.Lists.{at, put, has}
use Rattle.rt_model.specs.Tree.{Types}
use Rattle.rt_model.specs.World.{Source, same_source, Target, ScopeTarget, TaskTarget}
use Rattle.rt_model.specs.State.{Posted, Mark, Woken, Scope, LastCall, ContextRow, TaskRow, State, Outcome, Done, Cut, onward, is_live, changed_scope, change}
use Rattle.rt_model.specs.Commands.{post, post_target, names_source, readers, tell_contexts, tell}
use Rattle.rt_model.proofs.Maps.{by_test, at_here, at_there, at_put_here, at_put_other, none_some}
use Rattle.law_moves.specs.Heeds.{Low, HasMark, leavings, Marked, SameOf}
use Rattle.law_moves.proofs.Marks.{mark_first, mark_last, source_is}
use Rattle.law_moves.proofs.Calm.{mark_where, standing, holders_of, leavings_by, holders_by, there_of, reads_by, same_scope, Unique, unique_put, listed_same, listed_then, live_by, Calm, same_then, calm_then, calm_to, Quiet, quiet_then, no_fall, quiet_refl, quiet_if, same_quiet, holders_stay, held_stays}

module _ {K : Types} where
  -- more is posted

  more_posted : (w : State K) (ps : List Posted) → Quiet w (record w { posted = w.posted ++ ps })
  more_posted w ps =
      record {
        stand = λ t. refl;
        cells = refl;
        calls = refl;
        tasks = λ t h. h;
        unique = λ h. h;
        lists = listed_same None w (record w { posted = w.posted ++ ps }) refl refl refl (λ t h. h);
        marks = λ t x e h. elim h [ inl m ↦ inl (mark_first w.posted ps t m) | inr m ↦ inr m ];
        rises = no_fall w;
      }

  pub post_quiet : (w : State K) (p : Posted) → Quiet w (post w p)
  post_quiet w (Mark s) = quiet_if w (record w { posted = w.posted ++ Mark s ∷ [] }) w (is_live w s) (more_posted w (Mark s ∷ [])) (quiet_refl w)
  post_quiet w (Woken t) = quiet_if w (record w { posted = w.posted ++ Woken t ∷ [] }) w (is_some (at w.tasks t)) (more_posted w (Woken t ∷ [])) (quiet_refl w)

  target_quiet : (w : State K) (t : Target) → Quiet w (post_target w t)
  target_quiet w (ScopeTarget s) = post_quiet w (Mark s)
  target_quiet w (TaskTarget t) = post_quiet w (Woken t)

  contexts_quiet : (i : Source) (es : List (ℕ × ContextRow K)) (w : State K) → Quiet w (tell_contexts i es w)
  contexts_quiet i [] w = quiet_refl w
  contexts_quiet i (e ∷ es) w =
      let v : State K = if names_source (e.1).sources i then post_target w (e.1).target else w in
      quiet_then w v (tell_contexts i es v)
      (quiet_if w (post_target w (e.1).target) w (names_source (e.1).sources i) (target_quiet w (e.1).target) (quiet_refl w))
      (contexts_quiet i es v)

  pub tell_quiet : (w : State K) (i : Source) → Quiet w (tell w i)
  tell_quiet w i =
      let v : State K = record w { posted = w.posted ++ readers i w.scopes } in
      quiet_then w v (tell w i) (more_posted w (readers i w.scopes)) (contexts_quiet i w.contexts v)

  readers_marked : (i : Source) (es : List (ℕ × Scope K)) (s : ℕ) (x : Scope K) → at es s ≡ Some x → names_source x.reads i ≡ true → HasMark (readers i es) s
  readers_marked i [] s x live h = none_some refl live
  readers_marked i (e ∷ es) s x live h =
      by_test (nat_eq e.0 s)
      (
      λ q.
      let same : e.1 ≡ x = same_scope e.1 x (sym (at_here e.0 e.1 es s q) ∙ live) in
      mark_where (names_source (e.1).reads i) e.0 s (readers i es) (inr (ap (λ (y : Scope K). names_source y.reads i) same ∙ h, eqb-true e.0 s q))
      )
      (λ q. mark_where (names_source (e.1).reads i) e.0 s (readers i es) (inl (readers_marked i es s x (sym (at_there e.0 e.1 es s q) ∙ live) h)))

  -- who read a source is marked when it is told
  pub tell_marks : (w : State K) (i : Source) (s : ℕ) (x : Scope K) → at w.scopes s ≡ Some x → names_source x.reads i ≡ true → Marked (tell w i) s
  tell_marks w i s x live h =
      let v : State K = record w { posted = w.posted ++ readers i w.scopes } in
      (contexts_quiet i w.contexts v).marks s x live (inl (mark_last w.posted (readers i w.scopes) s (readers_marked i w.scopes s x live h)))

  -- one source changes, and is told
  pub record Turned (n : ℕ) (i : Source) (w v : State K) : Type 0 where
    pub stays : (t : ℕ) → leavings (at v.scopes t) ≡ leavings (at w.scopes t)
    pub holders : (t : ℕ) → holders_of (at v.scopes t) ≡ holders_of (at w.scopes t)
    pub others : (j : Source) → Low n j → same_source j i ≡ false → SameOf w v j
    pub calls : v.last_calls ≡ w.last_calls
    pub tasks : v.tasks ≡ w.tasks
    pub unique : Unique w.scopes → Unique v.scopes
    pub posted : v.posted ≡ w.posted
    pub seen : v.seen ≡ w.seen
    pub queued : v.queued ≡ w.queued
    pub skipped : v.skipped ≡ w.skipped
    pub next : v.next ≡ w.next

  pub turned_calm : (n : ℕ) (i : Source) (w v : State K) → Turned n i w v → Calm None n w (tell v i)
  turned_calm n i w v f =
      record {
        heeds =
            record {
              stays = λ t p. leavings_by (at u.scopes t) (at v.scopes t) (q.stand t) ∙ f.stays t;
              calls = λ t p. ap (λ (ls : List (ℕ × LastCall K)). at ls t) (q.calls ∙ f.calls);
              marks = λ t x p e h. q.marks t (there t x e).0 (there t x e).1 (marks t h);
              told = λ t x j p e reads low. by_source t x j e reads low;
              held = λ t x y p e d. inl (held_stays w u t x y (holders t) e d);
            };
        lists =
            listed_then None w v u (λ s p live. live_by (at u.scopes s) (at v.scopes s) (leavings_by (at u.scopes s) (at v.scopes s) (q.stand s)) live)
            (listed_same None w v f.seen f.queued f.skipped (λ t e. ap (λ (ts : List (ℕ × TaskRow K)). is_some (at ts t)) f.tasks ∙ e)) q.lists;
        orderly =
            λ h.
            record {
              holders = holders_stay w u holders (λ t e. q.tasks t (ap (λ (ts : List (ℕ × TaskRow K)). is_some (at ts t)) f.tasks ∙ e)) h.holders;
              unique = q.unique (f.unique h.unique);
            };
        rises = up;
      }
    where
      u : State K
      u = tell v i

      q : Quiet v u
      q = tell_quiet v i

      level : v.next.cells ≡ w.next.cells
      level = ap (λ z. z.cells) f.next

      up : w.next.cells ≤ u.next.cells
      up = let here = q.rises in omega (arith, here, level)

      holders : (t : ℕ) → holders_of (at u.scopes t) ≡ holders_of (at w.scopes t)
      holders t = holders_by (at u.scopes t) (at v.scopes t) (q.stand t) ∙ f.holders t

      there : (t : ℕ) (x : Scope K) → at w.scopes t ≡ Some x → (y : Scope K) × (at v.scopes t ≡ Some y) × (leavings (Some y) ≡ leavings (Some x))
      there t x e = there_of (at v.scopes t) (at w.scopes t) x (f.stays t) e

      marks : (t : ℕ) → Marked w t → Marked v t
      marks t (inl h) = inl (subst (λ (ps : List Posted). HasMark ps t) (sym f.posted) h)
      marks t (inr h) = inr (ap (λ (xs : List ℕ). has xs t) f.seen ∙ h)

      by_source : (t : ℕ) (x : Scope K) (j : Source) → at w.scopes t ≡ Some x → names_source x.reads j ≡ true → Low n j → SameOf w u j ⊎ Marked u t
      by_source t x j e reads low =
          by_test (same_source j i)
          (
          λ s.
          let y = there t x e in
          let named : names_source (y.0).reads i ≡ true = ap (λ (xs : List Source). names_source xs i) (reads_by x y.0 y.2) ∙ ap (λ (k : Source). names_source x.reads k) (sym (source_is j i s)) ∙ reads in
          inr (tell_marks v i t y.0 y.1 named)
          )
          (λ s. inl (same_then w v u j (f.others j low s) (same_quiet v u j q)))

  -- one scope's record changes

  pub put_by : {A : Type 0} (f : Option (Scope K) → A) (es : List (ℕ × Scope K)) (s : ℕ) (x y : Scope K) → at es s ≡ Some x → f (Some y) ≡ f (Some x) → (t : ℕ) → f (at (put es s y) t) ≡ f (at es t)
  put_by f es s x y live h t =
      by_test (nat_eq s t)
      (λ q. ap f (at_put_here es s y t q) ∙ h ∙ ap f (sym live ∙ ap (λ (k : ℕ). at es k) (eqb-true s t q)))
      (λ q. ap f (at_put_other es s y t q))

  put_quiet : (w : State K) (s : ℕ) (f : Scope K → Scope K) (o : Option (Scope K)) → at w.scopes s ≡ o → ((x : Scope K) → standing (Some (f x)) ≡ standing (Some x)) → Quiet w (changed_scope w s f o)
  put_quiet w s f None e same = quiet_refl w
  put_quiet w s f (Some x) e same =
      record { stand = put_by (λ o. standing o) w.scopes s x (f x) e (same x); cells = refl; calls = refl; tasks = λ t h. h; lists = listed_same None w (changed_scope w s f (Some x)) refl refl refl (λ t h. h); unique = λ h. unique_put w.scopes s x (f x) e h; marks = λ t y d h. h; rises = no_fall w }

  pub change_quiet : (w : State K) (s : ℕ) (f : Scope K → Scope K) → ((x : Scope K) → standing (Some (f x)) ≡ standing (Some x)) → Quiet w (change w s f)
  change_quiet w s f same = put_quiet w s f (at w.scopes s) refl same

  -- where a change isn't cut, it is calm
  abbrev pub CalmO : Option ℕ → ℕ → State K → Outcome K → Type 0
  CalmO past n w (Done v work) = Calm past n w v
  CalmO past n w (Cut v fault) = Unit {0}

  pub onward_calm : (past : Option ℕ) (n : ℕ) (w : State K) (o : Outcome K) (f : State K → Outcome K) → n ≤ w.next.cells → CalmO past n w o
      → ((v : State K) → n ≤ v.next.cells → CalmO past n v (f v))
      → CalmO past n w (onward o f)
  onward_calm past n w (Cut v fault) f low h g = tt
  onward_calm past n w (Done v work) f low h g = let more : n ≤ v.next.cells = omega (arith, low, h.rises) in after past n w v (f v) h (g v more)
    where
      after : (past : Option ℕ) (n : ℕ) (w v : State K) (o : Outcome K) → Calm past n w v → CalmO past n v o → CalmO past n w o
      after past n w v (Done u work) f g = calm_then past n w v u f g
      after past n w v (Cut u fault) f g = tt

  pub from_calm : (past : Option ℕ) (n : ℕ) (w v : State K) (o : Outcome K) → Calm past n w v → CalmO past n v o → CalmO past n w o
  from_calm past n w v (Done u work) f g = calm_then past n w v u f g
  from_calm past n w v (Cut u fault) f g = tt

  pub calm_o_to : (past : Option ℕ) (n : ℕ) (w : State K) (o : Outcome K) → CalmO None n w o → CalmO past n w o
  calm_o_to past n w (Done v work) f = calm_to past n w v f
  calm_o_to past n w (Cut v fault) f = tt

  pub calm_o_if : (past : Option ℕ) (n : ℕ) (w : State K) (b : Bool) (x y : Outcome K) → CalmO past n w x → CalmO past n w y → CalmO past n w (if b then x else y)
  calm_o_if past n w true x y f g = f
  calm_o_if past n w false x y f g = g
