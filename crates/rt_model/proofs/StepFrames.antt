-- What one entry leaves as it was.
use Rattle.std.proofs.Common.{ℕ, true, List, [], ◌∷◌, ◌++◌, ◌≡◌, ◌≤◌, ◌<◌, ◌+◌, refl, sym, ap, ◌∙◌, arith, subst, nat_eq}
use Rattle.std.specs.Prelude.{Option, Some, None}
use Rattle.rt_model.specs.Lists.{at}
use Rattle.rt_model.specs.Tree.{Types}
use Rattle.rt_model.specs.World.{Firsts, CallFault, Command, Meaning, Nothing, Application}
use Rattle.rt_model.specs.Laws.{IsNumbered, IsLawful}
use Rattle.rt_model.specs.State.{Scope, State, Outcome, Done, Cut, hooks_of, world_of}
use Rattle.rt_model.specs.Commands.{commands}
use Rattle.rt_model.specs.Next.{look, at_rest}
use Rattle.rt_model.specs.Run.{fault_of, with_next, called_once}
use Rattle.rt_model.specs.Removal.{clean_ups, without_scope, gone, stopped, cleaned, removed}
use Rattle.rt_model.specs.Replay.{waiting}
use Rattle.rt_model.specs.Lasting.{Rises, IsRooted}
use Rattle.rt_model.proofs.Maps.{by_test, eq_same, none_some, at_without_here, at_without_other}
use Rattle.rt_model.proofs.Tour.{AllFresh}
use Rattle.rt_model.proofs.TourLooks.{look_kept, rest_kept, gone_kept, stopped_kept}
use Rattle.rt_model.proofs.Frames.{shape, shape_steady, Same, commands_same}
use Rattle.rt_model.proofs.TourCalls.{state_of}
use Rattle.rt_model.proofs.RunFrames.{rises_refl, rises_trans, numbered_rises, Later, later_refl, later_same, fresh, next_later, once_later}

-- facts of shapes
abbrev parent_in_shape : Option (Option ℕ × ℕ) → Option ℕ
parent_in_shape None = None
parent_in_shape (Some p) = p.0

abbrev height_in_shape : Option (Option ℕ × ℕ) → ℕ
height_in_shape None = 0
height_in_shape (Some p) = p.1

module _ {K : Types} where
  pub look_same : (b : ℕ) (w : State K) → Same b w (look w)
  look_same b w = look_kept shape b w

  pub rest_same : (b : ℕ) (w : State K) → Same b w (at_rest w)
  rest_same b w = rest_kept shape b w

  pub none_by_shape : (o : Option (Scope K)) → shape o ≡ None → o ≡ None
  none_by_shape None h = refl
  none_by_shape (Some x) h = cc

  pub some_by_shape : (o : Option (Scope K)) (x : Scope K) → shape o ≡ shape (Some x) → (y : Scope K) × (o ≡ Some y) × (y.parent ≡ x.parent) × (y.height ≡ x.height)
  some_by_shape None x h = cc
  some_by_shape (Some y) x h = (y, refl, ap (λ o. parent_in_shape o) h, ap (λ o. height_in_shape o) h)

  -- v has no scope that w hasn't, and each with its parent and height
  pub record Thinner (b : ℕ) (w v : State K) : Type 0 where
    pub thin : (s : ℕ) (x : Scope K) → at v.scopes s ≡ Some x → shape (at w.scopes s) ≡ shape (Some x)
    pub ended : (t : ℕ) → t < b → at w.tasks t ≡ None → at v.tasks t ≡ None
    pub rises : Rises w.next v.next
    pub next_scope : v.next_scope ≡ w.next_scope

  -- v comes after w: what is gone stays gone, no counter falls, scopes stay rooted
  pub record Follows (w v : State K) : Type 0 where
    pub gone : (s : ℕ) → s < w.next_scope → at w.scopes s ≡ None → at v.scopes s ≡ None
    pub ended : (t : ℕ) → t < w.next.tasks → at w.tasks t ≡ None → at v.tasks t ≡ None
    pub rises : Rises w.next v.next
    pub next_scope : w.next_scope ≤ v.next_scope
    pub rooted : IsRooted w → IsRooted v

  none_thin : (o p : Option (Scope K)) → ((x : Scope K) → o ≡ Some x → shape p ≡ shape (Some x)) → p ≡ None → o ≡ None
  none_thin None p h q = refl
  none_thin (Some x) p h q = none_by_shape (Some x) (sym (h x refl) ∙ ap (λ (z : Option (Scope K)). shape z) q)

  rooted_thin : (b : ℕ) (w v : State K) → Thinner b w v → IsRooted w → IsRooted v
  rooted_thin b w v h r =
      record {
        drawn = λ s l. let below : w.next_scope ≤ s = subst (λ (n : ℕ). n ≤ s) h.next_scope l in none_thin (at v.scopes s) (at w.scopes s) (h.thin s) (r.drawn s below);
        parents =
            λ s p x q e.
            let old = some_by_shape (at w.scopes s) x (h.thin s x q) in
            subst (λ (n : ℕ). p < n) (sym h.next_scope) (r.parents s p old.0 old.1 (old.2 ∙ e));
        heights =
            λ s p x y q e f.
            let old = some_by_shape (at w.scopes s) x (h.thin s x q) in
            let above = some_by_shape (at w.scopes p) y (h.thin p y f) in
            sym old.3 ∙ r.heights s p old.0 above.0 old.1 (old.2 ∙ e) above.1 ∙ ap (λ (n : ℕ). n + 1) above.3;
      }

  pub follows_thin : (w v : State K) → Thinner w.next.tasks w v → Follows w v
  follows_thin w v h =
      let none : w.next_scope ≤ v.next_scope = omega (arith, h.next_scope) in
      record {
        gone = λ s l e. none_thin (at v.scopes s) (at w.scopes s) (h.thin s) e;
        ended = h.ended;
        rises = h.rises;
        next_scope = none;
        rooted = rooted_thin w.next.tasks w v h;
      }

  pub follows_later : (w v : State K) → Later w v → Follows w v
  follows_later w v h =
      follows_thin w v
      (record {
        thin = λ s x e. sym (h.shapes s) ∙ ap (λ (z : Option (Scope K)). shape z) e;
        ended = h.ended;
        rises = h.rises;
        next_scope = h.next_scope;
      })

  pub follows_trans : (u v w : State K) → Follows u v → Follows v w → Follows u w
  follows_trans u v w p q =
      let tasks : (t : ℕ) → t < u.next.tasks → t < v.next.tasks = λ t l. omega (arith, l, p.rises.tasks) in
      let scopes : (s : ℕ) → s < u.next_scope → s < v.next_scope = λ s l. omega (arith, l, p.next_scope) in
      let more : u.next_scope ≤ w.next_scope = omega (arith, p.next_scope, q.next_scope) in
      record {
        gone = λ s l e. q.gone s (scopes s l) (p.gone s l e);
        ended = λ t l e. q.ended t (tasks t l) (p.ended t l e);
        rises = rises_trans u.next v.next w.next p.rises q.rises;
        next_scope = more;
        rooted = λ r. q.rooted (p.rooted r);
      }

  pub follows_refl : (w : State K) → Follows w w
  follows_refl w = follows_later w w (later_refl w)

  thin_same : (b : ℕ) (w v u : State K) → Thinner b w v → Same b v u → Thinner b w u
  thin_same b w v u h g =
      record {
        thin = λ s x e. let old = some_by_shape (at v.scopes s) x (sym (g.seen s) ∙ ap (λ (z : Option (Scope K)). shape z) e) in h.thin s old.0 old.1 ∙ sym (g.seen s ∙ ap (λ (z : Option (Scope K)). shape z) old.1) ∙ ap (λ (z : Option (Scope K)). shape z) e;
        ended = λ t l e. g.ended t l (h.ended t l e);
        rises = subst (λ (f : Firsts). Rises w.next f) (sym g.next) h.rises;
        next_scope = g.next_scope ∙ h.next_scope;
      }

  -- a change before it that leaves the scopes
  thin_after : (b : ℕ) (w v u : State K) → Later w v → b ≤ w.next.tasks → Thinner b v u → Thinner b w u
  thin_after b w v u h l g =
      let tasks : (t : ℕ) → t < b → t < w.next.tasks = λ t k. omega (arith, k, l) in
      record {
        thin = λ s x e. sym (h.shapes s) ∙ g.thin s x e;
        ended = λ t k e. g.ended t k (h.ended t (tasks t k) e);
        rises = rises_trans w.next v.next u.next h.rises g.rises;
        next_scope = g.next_scope ∙ h.next_scope;
      }

  -- the scope that goes
  without_thin : (b : ℕ) (w : State K) (s : ℕ) → Thinner b w (without_scope w s)
  without_thin b w s =
      record {
        thin =
            λ t x e.
            by_test (nat_eq s t)
            (λ q. none_some (at_without_here w.scopes s t q) e)
            (λ q. ap (λ (z : Option (Scope K)). shape z) (sym (at_without_other w.scopes s t q) ∙ e));
        ended = λ t l e. e;
        rises = rises_refl w.next;
        next_scope = refl;
      }

  pub gone_same : (b : ℕ) (w : State K) (s : ℕ) → Same b (without_scope w s) (gone w s)
  gone_same b w s = gone_kept shape b w s

  gone_thin : (b : ℕ) (w : State K) (s : ℕ) → Thinner b w (gone w s)
  gone_thin b w s = thin_same b w (without_scope w s) (gone w s) (without_thin b w s) (gone_same b w s)

  pub stopped_later : (w : State K) (s : ℕ) → Later w (stopped w s)
  stopped_later w s = later_same w (stopped w s) (stopped_kept shape shape_steady w.next.tasks w s)

  -- where a removal isn't cut the scope is gone
  abbrev pub IsGone : ℕ → Outcome K → Type 0
  IsGone s (Done w work) = at w.scopes s ≡ None
  IsGone s (Cut w fault) = Unit {0}

module _ {K : Types} (app : Application K) (lawful : IsLawful K app) where
  fresh_both : (b : ℕ) (cs ds : List (Command K)) → AllFresh app b cs → AllFresh app b ds → AllFresh app b (cs ++ ds)
  fresh_both b [] ds h g = g
  fresh_both b (c ∷ cs) ds h g = (h.0, fresh_both b cs ds h.1 g)

  cleaned_at : (b s : ℕ) (es : List K.Effect) (w : State K) (waiting : List (Command K)) (m : Meaning K Nothing) (o : Option CallFault)
      → IsNumbered w.next m.commands m.next
      → b ≤ w.next.tasks
      → (Thinner b (with_next w m.next) (state_of (cleaned app s es (with_next w m.next) (waiting ++ m.commands))) × IsGone s (cleaned app s es (with_next w m.next) (waiting ++ m.commands)))
      → Thinner b w (state_of (elim o [ None ↦ cleaned app s es (with_next w m.next) (waiting ++ m.commands) | Some f ↦ Cut (with_next w m.next) (fault_of f) ]))
      ×
      IsGone s (elim o [ None ↦ cleaned app s es (with_next w m.next) (waiting ++ m.commands) | Some f ↦ Cut (with_next w m.next) (fault_of f) ])
  cleaned_at b s es w waiting m None n l h =
      (thin_after b w (with_next w m.next) (state_of (cleaned app s es (with_next w m.next) (waiting ++ m.commands))) (next_later app lawful w m n) l h.0, h.1)
  cleaned_at b s es w waiting m (Some f) n l h =
      (record { thin = λ t x e. ap (λ (z : Option (Scope K)). shape z) e; ended = λ t k e. e; rises = numbered_rises w.next m.commands m.next n; next_scope = refl }, tt)

  cleaned_thin : (b s : ℕ) (es : List K.Effect) (w : State K) (waiting : List (Command K)) → AllFresh app b waiting → b ≤ w.next.tasks
      → Thinner b w (state_of (cleaned app s es w waiting)) × IsGone s (cleaned app s es w waiting)
  cleaned_thin b s [] w waiting f l =
      let c : Same b (gone w s) (commands app (gone w s) s None waiting) = commands_same app b (gone w s) s None waiting f in (
        thin_same b w (gone w s) (commands app (gone w s) s None waiting) (gone_thin b w s) c,
        none_by_shape (at (commands app (gone w s) s None waiting).scopes s)
            (c.seen s ∙ (gone_same b w s).seen s ∙ ap (λ (z : Option (Scope K)). shape z) (at_without_here w.scopes s s (eq_same s))),
      )
  cleaned_thin b s (e ∷ es) w waiting f l =
      let m : Meaning K Nothing = app.effect e (world_of w s None true) in
      let n : IsNumbered w.next m.commands m.next = lawful.effects_number e (world_of w s None true) in
      let r : Rises w.next m.next = numbered_rises w.next m.commands m.next n in
      let more : b ≤ m.next.tasks = omega (arith, l, r.tasks) in
      let c =
      cleaned_at b s es (called_once w) waiting m m.fault n l
      (cleaned_thin b s es (with_next (called_once w) m.next) (waiting ++ m.commands)
      (fresh_both b waiting m.commands f (fresh app lawful w.next.tasks m.next.tasks b m.commands l n.tasks)) more)
      in (thin_after b w (called_once w) (state_of (cleaned app s (e ∷ es) w waiting)) (once_later app lawful w) l c.0, c.1)

  removed_thin : (w : State K) (s : ℕ) → Thinner w.next.tasks w (state_of (removed app w s)) × IsGone s (removed app w s)
  removed_thin w s =
      let v : State K = stopped w s in
      let h : Later w v = stopped_later w s in
      let l : w.next.tasks ≤ v.next.tasks = h.rises.tasks in
      let none : w.next.tasks ≤ w.next.tasks = omega arith in
      let c = cleaned_thin w.next.tasks s (clean_ups (hooks_of v s) []) v [] tt l in
      (thin_after w.next.tasks w v (state_of (removed app w s)) h none c.0, c.1)

  pub removed_follows : (w : State K) (s : ℕ) → Follows w (state_of (removed app w s))
  removed_follows w s = follows_thin w (state_of (removed app w s)) (removed_thin w s).0

  pub removed_gone : (w : State K) (s : ℕ) → IsGone s (removed app w s)
  removed_gone w s = (removed_thin w s).1
