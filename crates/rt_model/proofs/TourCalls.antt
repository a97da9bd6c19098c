-- The tour goes on: effects, hooks, callbacks, polls, and what an answer counts, throws or holds, done or cut.
use Rattle.std.proofs.Common.{ℕ, Bool, true, false, List, [], ◌∷◌, ◌≡◌, ◌+◌, refl}
use Rattle.std.specs.Prelude.{Option, Some, None, if◌then◌else◌}
use Rattle.rt_model.specs.Lists.{at, put}
use Rattle.rt_model.specs.Tree.{Types, Element, rendered, failed, suspended}
use Rattle.rt_model.specs.World.{Renders, Firsts, at_end, after_render_kind, CallFault, Hook, HookValue, HookEffect, Command, World, Meaning, Nothing, TaskStep, pending, ready, Application}
use Rattle.rt_model.specs.State.{IdsExhausted, Scope, TaskRow, State, Outcome, Done, Cut, onward, is_live, change, hooks_of, renders_of, world_of, effects_of}
use Rattle.rt_model.specs.Commands.{unqueued, end, commands, throw_error}
use Rattle.rt_model.specs.Next.{look}
use Rattle.rt_model.specs.Run.{fault_of, with_next, is_kind, raised, suspends_on, acted, hook_called, hooks_called, after_hooks, settled_answer, called_once}
use Rattle.rt_model.specs.Boundary.{counted_render, called_back}
use Rattle.rt_model.specs.Replay.{polled_to, polled_at, polled, batch, effects_run}
use Rattle.rt_model.proofs.Tour.{Steady, Kept, kept_refl, kept_rest, change_kept, throw_kept, end_kept, task_kept}
use Rattle.rt_model.proofs.TourLooks.{once_kept, look_kept, suspended_kept}

module _ {K : Types} where
  -- the state that a change leads to, also where it is cut
  abbrev pub state_of : Outcome K → State K
  state_of (Done w work) = w
  state_of (Cut w fault) = w

module _ {K : Types} {A : Type 0} (sees : Option (Scope K) → A) (R : State K → State K → Type 0) (bound : State K → ℕ) where
  -- one change goes after another, and so does what leaves all that is seen
  pub record Goes : Type 0 where
    pub after : (u v w : State K) → R u v → R v w → R u w
    pub small : (w v : State K) → Kept sees (bound w) w v → R w v

  -- a change that may be cut
  abbrev pub GoesO : State K → Outcome K → Type 0
  GoesO w o = R w (state_of o)

  module _ (steady : Steady sees) (goes : Goes) where
    -- no change
    pub none_goes : (w : State K) → R w w
    none_goes w = goes.small w w (kept_refl sees (bound w) w)

    -- a change, then one that may be cut
    pub from_goes : (w v : State K) (o : Outcome K) → R w v → GoesO v o → GoesO w o
    from_goes w v o h g = goes.after w v (state_of o) h g

    -- two changes that may be cut, one after the other
    pub onward_goes : (w : State K) (o : Outcome K) (f : State K → Outcome K) → GoesO w o → ((v : State K) → GoesO v (f v)) → GoesO w (onward o f)
    onward_goes w (Done v work) f h g = from_goes w v (f v) h (g v)
    onward_goes w (Cut v fault) f h g = h

    pub either_goes : (w : State K) (c : Bool) (x y : Outcome K) → GoesO w x → GoesO w y → GoesO w (if c then x else y)
    either_goes w true x y h g = h
    either_goes w false x y h g = g

    raised_goes : (w : State K) (s : ℕ) → GoesO w (raised w s)
    raised_goes w s =
        let v : State K = change w s (λ x. record x { renders = x.renders + 1 }) in
        either_goes w (at_end (renders_of w s)) (Cut w (IdsExhausted Renders)) (Done v []) (none_goes w)
        (goes.small w v (change_kept sees (bound w) w s (λ x. record x { renders = x.renders + 1 }) (λ x. steady.renders x (x.renders + 1))))

    suspends_goes : (w : State K) (s origin t : ℕ) (o : Option (TaskRow K)) → at w.tasks t ≡ o → GoesO w (suspends_on w s origin t o)
    suspends_goes w s origin t None e = none_goes w
    suspends_goes w s origin t (Some x) e = goes.small w _ (suspended_kept sees steady (bound w) w s origin t x e)

    -- what an answer counts, throws or holds
    pub settled_answer_goes : (app : Application K) (w : State K) (s : ℕ) (a : Element K) → GoesO w (settled_answer app w s a)
    settled_answer_goes app w s (rendered tree) = raised_goes w s
    settled_answer_goes app w s (failed e) = goes.small w (throw_error w s e) (throw_kept sees steady (bound w) w s e)
    settled_answer_goes app w s (suspended origin t) = suspends_goes w s origin t (at w.tasks t) refl

    -- a render is counted
    pub counted_goes : (app : Application K) (w : State K) (b : ℕ) (c : Bool) → GoesO w (counted_render app w b c)
    counted_goes app w b true = raised_goes w b
    counted_goes app w b false = none_goes w

    module _ (app : Application K) (Counts : Firsts → List (Command K) → Firsts → Type 0) where
      -- a call's next numbers and its commands are such changes
      pub record Calls : Type 1 where
        pub effects : (e : K.Effect) (world : World K) → Counts world.given.next (app.effect e world).commands (app.effect e world).next
        pub polls : (a : K.TaskState) (world : World K) → Counts world.given.next (app.poll a world).commands (app.poll a world).next
        pub next : {B : Type 0} (w : State K) (m : Meaning K B) → Counts w.next m.commands m.next → R w (with_next w m.next)
        pub called : {B : Type 0} (w : State K) (s : ℕ) (t : Option ℕ) (m : Meaning K B) → Counts w.next m.commands m.next
            → R w (commands app (with_next w m.next) s t m.commands)

      module _ (calls : Calls) where
        acted_at : (w : State K) (s : ℕ) (m : Meaning K Nothing) (o : Option CallFault) → Counts w.next m.commands m.next
            → GoesO w (elim o [ None ↦ Done (commands app (with_next w m.next) s None m.commands) [] | Some f ↦ Cut (with_next w m.next) (fault_of f) ])
        acted_at w s m None n = calls.called w s None m n
        acted_at w s m (Some f) n = calls.next w m n

        -- an effect with its commands
        pub acted_goes : (w : State K) (s : ℕ) (e : K.Effect) (rendering : Bool) → GoesO w (acted app w s e rendering)
        acted_goes w s e rendering =
            let m : Meaning K Nothing = app.effect e (world_of w s None rendering) in
            from_goes w (called_once w) (acted app w s e rendering) (goes.small w (called_once w) (once_kept sees (bound w) w))
            (acted_at (called_once w) s m m.fault (calls.effects e (world_of w s None rendering)))

        hook_goes : (w : State K) (s : ℕ) (h : Hook K) → GoesO w (hook_called app w s h)
        hook_goes w s (HookValue k v) = none_goes w
        hook_goes w s (HookEffect k e) = acted_goes w s e true

        -- the hooks of one kind
        pub hooks_goes : (kind : ℕ) (w : State K) (s : ℕ) (hs : List (Hook K)) → GoesO w (hooks_called app kind w s hs)
        hooks_goes kind w s [] = none_goes w
        hooks_goes kind w s (h ∷ hs) =
            either_goes w (is_kind kind h) (onward (hook_called app w s h) (λ v. hooks_called app kind v s hs)) (hooks_called app kind w s hs)
            (onward_goes w (hook_called app w s h) (λ v. hooks_called app kind v s hs) (hook_goes w s h) (λ v. hooks_goes kind v s hs))
            (hooks_goes kind w s hs)

        -- the hooks after a render
        pub after_hooks_goes : (w : State K) (s : ℕ) → GoesO w (after_hooks app w s)
        after_hooks_goes w s = hooks_goes after_render_kind w s (hooks_of w s)

        -- the callbacks of a boundary
        pub called_back_goes : (w : State K) (es : List (ℕ × K.Effect)) → GoesO w (called_back app w es)
        called_back_goes w [] = none_goes w
        called_back_goes w (e ∷ es) =
            either_goes w (is_live w e.0) (onward (acted app w e.0 e.1 false) (λ v. called_back app v es)) (called_back app w es)
            (onward_goes w (acted app w e.0 e.1 false) (λ v. called_back app v es) (acted_goes w e.0 e.1 false) (λ v. called_back_goes v es))
            (called_back_goes w es)

        polled_to_goes : (w : State K) (t : ℕ) (x : TaskRow K) (m : Meaning K (TaskStep K)) (a : TaskStep K) → at w.tasks t ≡ Some x → Counts w.next m.commands m.next
            → R w (polled_to app (with_next w m.next) t x m a)
        polled_to_goes w t x m (pending a) live n =
            let v : State K = record w { tasks = put w.tasks t (record x { state = a }) } in
            let done : State K = commands app (with_next v m.next) x.scope (Some t) m.commands in
            goes.after w v (look done) (goes.small w v (task_kept sees steady (bound w) w t x (record x { state = a }) live))
            (goes.after v done (look done) (calls.called v x.scope (Some t) m n) (goes.small done (look done) (look_kept sees (bound done) done)))
        polled_to_goes w t x m ready live n =
            let done : State K = commands app (with_next w m.next) x.scope (Some t) m.commands in
            goes.after w done (look (end done t)) (calls.called w x.scope (Some t) m n)
            (goes.after done (end done t) (look (end done t)) (goes.small done (end done t) (end_kept sees steady (bound done) done t))
            (goes.small (end done t) (look (end done t)) (look_kept sees (bound (end done t)) (end done t))))

        polled_by_goes : (w : State K) (t : ℕ) (x : TaskRow K) (m : Meaning K (TaskStep K)) (o : Option CallFault) → at w.tasks t ≡ Some x → Counts w.next m.commands m.next
            → GoesO w (elim o as (λ z. Outcome K) [
              | None ↦ Done (polled_to app (with_next w m.next) t x m m.answer) []
              | Some f ↦ Cut (with_next w m.next) (fault_of f)
            ])
        polled_by_goes w t x m None live n = polled_to_goes w t x m m.answer live n
        polled_by_goes w t x m (Some f) live n = calls.next w m n

        polled_at_goes : (w : State K) (t : ℕ) (o : Option (TaskRow K)) → at w.tasks t ≡ o → GoesO w (polled_at app w t o)
        polled_at_goes w t None live = none_goes w
        polled_at_goes w t (Some x) live =
            let m : Meaning K (TaskStep K) = app.poll x.state (world_of w x.scope (Some t) false) in
            from_goes w (called_once w) (polled_at app w t (Some x)) (goes.small w (called_once w) (once_kept sees (bound w) w))
            (polled_by_goes (called_once w) t x m m.fault live (calls.polls x.state (world_of w x.scope (Some t) false)))

        -- a poll
        pub polled_goes : (w : State K) (t : ℕ) → GoesO w (polled app w t)
        polled_goes w t =
            let v : State K = unqueued w t in
            from_goes w v (polled_at app v t (at w.tasks t)) (goes.small w v (kept_rest sees (bound w) w v refl refl refl refl)) (polled_at_goes v t (at w.tasks t) refl)

        batch_goes : (w : State K) (s : ℕ) (es : List K.Effect) → GoesO w (batch app w s es)
        batch_goes w s [] = goes.small w (look w) (look_kept sees (bound w) w)
        batch_goes w s (e ∷ es) = onward_goes w (acted app w s e false) (λ v. batch app v s es) (acted_goes w s e false) (λ v. batch_goes v s es)

        -- the effects of a scope
        pub effects_goes : (w : State K) (s : ℕ) → GoesO w (effects_run app w s)
        effects_goes w s =
            let v : State K = change w s (λ x. record x { effects = [] }) in
            from_goes w v (batch app v s (effects_of w s)) (goes.small w v (change_kept sees (bound w) w s (λ x. record x { effects = [] }) (λ x. steady.effects x [])))
            (batch_goes v s (effects_of w s))
