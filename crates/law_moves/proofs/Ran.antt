-- What calls, polls, effects and listeners leave: all of them are calm.
use Rattle.std.proofs.Common.{ℕ, Bool, true, false, List, [], ◌∷◌, ◌≤◌, not, refl, arith, inl, inr}
use Rattle.std.specs.Prelude.{Option, Some, None}
use Rattle.rt_model.specs.Lists.{at, put}
use Rattle.rt_model.specs.Tree.{Types, Element, rendered, failed, suspended}
use Rattle.rt_model.specs.World.{after_render_kind, CallFault, Hook, HookValue, HookEffect, Event, Meaning, Nothing, TaskStep, pending, ready, World, Application}
use Rattle.rt_model.specs.Laws as laws
use Rattle.rt_model.specs.Laws.{IsNumbered, IsLawful}
use Rattle.rt_model.specs.State.{Woken, TaskRow, State, Outcome, Done, Cut, onward, is_live, change, hooks_of, world_of, effects_of}
use Rattle.rt_model.specs.Commands.{unqueued, end, commands}
use Rattle.rt_model.specs.Asides.{left_of}
use Rattle.rt_model.specs.Next.{is_active, look}
use Rattle.rt_model.specs.Run.{fault_of, with_next, called_once, is_kind, acted, hook_called, hooks_called, after_hooks, settled_answer}
use Rattle.rt_model.specs.Boundary.{counted_render, called_back}
use Rattle.rt_model.specs.Replay.{Machine, then_looked, left_by_poll, polled_to, polled_at, polled, poll_meant, polled_apart_at, polled_apart, polled_now, batch, effects_run, further, heard_event}
use Rattle.rt_model.specs.Heard.{Listener}
use Rattle.rt_model.proofs.Members.{number_left}
use Rattle.law_moves.proofs.Marks.{mark_stays}
use Rattle.law_moves.proofs.Told.{change_quiet, CalmO, onward_calm, from_calm, calm_o_if}
use Rattle.law_moves.proofs.Calm.{Calm, calm_then, calm_refl, Quiet, quiet_calm, no_fall}
use Rattle.law_moves.proofs.CalmCommands.{throw_calm, commands_calm}
use Rattle.law_moves.proofs.Tasks.{end_calm, task_quiet}
use Rattle.law_moves.proofs.Looks.{all_from, cells_rise, next_quiet, once_quiet, suspends_calm, raised_calm, look_quiet, then_looked_quiet}

module _ {K : Types} (app : Application K) (lawful : IsLawful K app) where
  -- the commands of a call, after its next numbers
  pub called_calm : {A : Type 0} (n : ℕ) (w : State K) (s : ℕ) (polled : Option ℕ) (m : Meaning K A) → n ≤ w.next.cells → IsNumbered w.next m.commands m.next
      → Calm None n w (commands app (with_next w m.next) s polled m.commands)
  called_calm n w s polled m low numbered =
      calm_then None n w (with_next w m.next) (commands app (with_next w m.next) s polled m.commands)
      (quiet_calm None n w (with_next w m.next) (next_quiet w m.next (cells_rise w.next m.next m.commands numbered)))
      (commands_calm app lawful.tests_values n (with_next w m.next) s polled m.commands (all_from n w.next m.next m.commands low numbered))

  acted_at : (n : ℕ) (w : State K) (s : ℕ) (m : Meaning K Nothing) (o : Option CallFault) → n ≤ w.next.cells → IsNumbered w.next m.commands m.next
      → CalmO None n w (elim o [ None ↦ Done (commands app (with_next w m.next) s None m.commands) [] | Some f ↦ Cut (with_next w m.next) (fault_of f) ])
  acted_at n w s m None low numbered = called_calm n w s None m low numbered
  acted_at n w s m (Some f) low numbered = tt

  pub acted_calm : (n : ℕ) (w : State K) (s : ℕ) (e : K.Effect) (rendering : Bool) → n ≤ w.next.cells → CalmO None n w (acted app w s e rendering)
  acted_calm n w s e rendering low =
      let u : State K = called_once w in
      let m : Meaning K Nothing = app.effect e (world_of w s None rendering) in
      from_calm None n w u (acted app w s e rendering) (quiet_calm None n w u (once_quiet w)) (acted_at n u s m m.fault low (lawful.effects_number e (world_of w s None rendering)))

  hook_calm : (n : ℕ) (w : State K) (s : ℕ) (h : Hook K) → n ≤ w.next.cells → CalmO None n w (hook_called app w s h)
  hook_calm n w s (HookValue k v) low = calm_refl None n w
  hook_calm n w s (HookEffect k e) low = acted_calm n w s e true low

  pub hooks_calm : (n kind : ℕ) (w : State K) (s : ℕ) (hs : List (Hook K)) → n ≤ w.next.cells → CalmO None n w (hooks_called app kind w s hs)
  hooks_calm n kind w s [] low = calm_refl None n w
  hooks_calm n kind w s (h ∷ hs) low =
      calm_o_if None n w (is_kind kind h) (onward (hook_called app w s h) (λ v. hooks_called app kind v s hs)) (hooks_called app kind w s hs)
      (onward_calm None n w (hook_called app w s h) (λ v. hooks_called app kind v s hs) low (hook_calm n w s h low) (λ v more. hooks_calm n kind v s hs more))
      (hooks_calm n kind w s hs low)

  pub after_hooks_calm : (n : ℕ) (w : State K) (s : ℕ) → n ≤ w.next.cells → CalmO None n w (after_hooks app w s)
  after_hooks_calm n w s low = hooks_calm n after_render_kind w s (hooks_of w s) low

  settled_calm : (n : ℕ) (w : State K) (s : ℕ) (a : Element K) → CalmO None n w (settled_answer app w s a)
  settled_calm n w s (rendered tree) = raised_calm n w s
  settled_calm n w s (failed e) = throw_calm n w s e
  settled_calm n w s (suspended origin t) = suspends_calm n w s origin t (at w.tasks t) refl

  -- an answer settles, and then the hooks are called
  pub answered_calm : (n : ℕ) (w : State K) (s : ℕ) (a : Element K) → n ≤ w.next.cells → CalmO None n w (onward (settled_answer app w s a) (λ v. after_hooks app v s))
  answered_calm n w s a low = onward_calm None n w (settled_answer app w s a) (λ v. after_hooks app v s) low (settled_calm n w s a) (λ v more. after_hooks_calm n v s more)

  counted_calm : (n : ℕ) (w : State K) (b : ℕ) (counts : Bool) → CalmO None n w (counted_render app w b counts)
  counted_calm n w b true = raised_calm n w b
  counted_calm n w b false = calm_refl None n w

  pub fallback_calm : (n : ℕ) (w : State K) (b : ℕ) (counts : Bool) → n ≤ w.next.cells → CalmO None n w (onward (counted_render app w b counts) (λ v. after_hooks app v b))
  fallback_calm n w b counts low = onward_calm None n w (counted_render app w b counts) (λ v. after_hooks app v b) low (counted_calm n w b counts) (λ v more. after_hooks_calm n v b more)

  pub called_back_calm : (n : ℕ) (w : State K) (es : List (ℕ × K.Effect)) → n ≤ w.next.cells → CalmO None n w (called_back app w es)
  called_back_calm n w [] low = calm_refl None n w
  called_back_calm n w (e ∷ es) low =
      calm_o_if None n w (is_live w e.0) (onward (acted app w e.0 e.1 false) (λ v. called_back app v es)) (called_back app w es)
      (onward_calm None n w (acted app w e.0 e.1 false) (λ v. called_back app v es) low (acted_calm n w e.0 e.1 false low) (λ v more. called_back_calm n v es more))
      (called_back_calm n w es low)

  -- polls, effects, listeners

  left_calm : (n : ℕ) (w : State K) (t : ℕ) (x : TaskRow K) (m : Meaning K (TaskStep K)) (a : TaskStep K) → n ≤ w.next.cells → IsNumbered w.next m.commands m.next
      → Calm None n w (left_by_poll app (with_next w m.next) t x m a)
  left_calm n w t x m (pending a) low numbered =
      let v : State K = record w { tasks = put w.tasks t (record x { state = a }) } in
      calm_then None n w v (left_by_poll app (with_next w m.next) t x m (pending a)) (quiet_calm None n w v (task_quiet w t (record x { state = a }))) (called_calm n v x.scope (Some t) m low numbered)
  left_calm n w t x m ready low numbered =
      let v : State K = commands app (with_next w m.next) x.scope (Some t) m.commands in
      calm_then None n w v (end v t) (called_calm n w x.scope (Some t) m low numbered) (end_calm n v t)

  polled_by_calm : (n : ℕ) (w : State K) (t : ℕ) (x : TaskRow K) (m : Meaning K (TaskStep K)) (o : Option CallFault) → n ≤ w.next.cells → IsNumbered w.next m.commands m.next
      → CalmO None n w (elim o as (λ z. Outcome K) [
        | None ↦ Done (polled_to app (with_next w m.next) t x m m.answer) []
        | Some f ↦ Cut (with_next w m.next) (fault_of f)
      ])
  polled_by_calm n w t x m None low numbered =
      let v : State K = left_by_poll app (with_next w m.next) t x m m.answer in
      calm_then None n w v (look v) (left_calm n w t x m m.answer low numbered) (quiet_calm None n v (look v) (look_quiet v))
  polled_by_calm n w t x m (Some f) low numbered = tt

  polled_at_calm : (n : ℕ) (w : State K) (t : ℕ) (o : Option (TaskRow K)) → n ≤ w.next.cells → CalmO None n w (polled_at app w t o)
  polled_at_calm n w t None low = calm_refl None n w
  polled_at_calm n w t (Some x) low =
      let u : State K = called_once w in
      let m : Meaning K (TaskStep K) = app.poll x.state (world_of w x.scope (Some t) false) in
      from_calm None n w u (polled_at app w t (Some x)) (quiet_calm None n w u (once_quiet w)) (polled_by_calm n u t x m m.fault low (lawful.polls_number x.state (world_of w x.scope (Some t) false)))

  unqueued_quiet : (w : State K) (t : ℕ) → Quiet w (unqueued w t)
  unqueued_quiet w t =
      record {
        stand = λ s. refl;
        cells = refl;
        calls = refl;
        tasks = λ s h. h;
        unique = λ h. h;
        lists = record { seen = λ s p h. inl h; queued = λ u h. inl ((number_left w.queued t u h).0, λ i. i); passes = λ s p h. h; passed = λ s h. h };
        marks = λ s x e h. elim h [ inl m ↦ inl (mark_stays w.posted (Woken t) s refl m) | inr m ↦ inr m ];
        rises = no_fall w;
      }

  pub polled_calm : (n : ℕ) (w : State K) (t : ℕ) → n ≤ w.next.cells → CalmO None n w (polled app w t)
  polled_calm n w t low =
      let v : State K = unqueued w t in
      from_calm None n w v (polled app w t) (quiet_calm None n w v (unqueued_quiet w t)) (polled_at_calm n v t (at w.tasks t) low)

  -- a task that is polled at once
  apart_by_calm : (n : ℕ) (w : State K) (t : ℕ) (x : TaskRow K) (m : Meaning K (TaskStep K)) (o : Option CallFault) → n ≤ w.next.cells
      → IsNumbered w.next m.commands m.next
      → CalmO None n w (elim o as (λ z. Outcome K) [
        | None ↦ Done (left_by_poll app (with_next w m.next) t x m m.answer) []
        | Some f ↦ Cut (with_next w m.next) (fault_of f)
      ])
  apart_by_calm n w t x m None low numbered = left_calm n w t x m m.answer low numbered
  apart_by_calm n w t x m (Some f) low numbered = tt

  apart_at_calm : (n : ℕ) (w : State K) (t : ℕ) (o : Option (TaskRow K)) → n ≤ w.next.cells → CalmO None n w (polled_apart_at app w t o)
  apart_at_calm n w t None low = calm_refl None n w
  apart_at_calm n w t (Some x) low =
      let u : State K = called_once w in
      let m : Meaning K (TaskStep K) = poll_meant app w t x in
      from_calm None n w u (polled_apart_at app w t (Some x)) (quiet_calm None n w u (once_quiet w))
      (apart_by_calm n u t x m m.fault low (lawful.polls_number x.state (world_of w x.scope (Some t) false)))

  apart_calm : (n : ℕ) (w : State K) (t : ℕ) → n ≤ w.next.cells → CalmO None n w (polled_apart app w t)
  apart_calm n w t low =
      let v : State K = unqueued w t in
      from_calm None n w v (polled_apart app w t) (quiet_calm None n w v (unqueued_quiet w t)) (apart_at_calm n v t (at w.tasks t) low)

  pub advanced_calm : (n : ℕ) (w : State K) (t : ℕ) → n ≤ w.next.cells → Calm None n w (left_of w (polled_now app w t))
  advanced_calm n w t low =
      left (polled_now app w t)
      (calm_o_if None n w (is_active w t) (polled_apart app w t) (Done w []) (apart_calm n w t low) (calm_refl None n w))
    where
      left : (o : Outcome K) → CalmO None n w o → Calm None n w (left_of w o)
      left (Done v work) h = h
      left (Cut v fault) h = calm_refl None n w

  batch_calm : (n : ℕ) (w : State K) (s : ℕ) (es : List K.Effect) → n ≤ w.next.cells → CalmO None n w (batch app w s es)
  batch_calm n w s [] low = quiet_calm None n w (look w) (look_quiet w)
  batch_calm n w s (e ∷ es) low = onward_calm None n w (acted app w s e false) (λ v. batch app v s es) low (acted_calm n w s e false low) (λ v more. batch_calm n v s es more)

  pub effects_calm : (n : ℕ) (w : State K) (s : ℕ) → n ≤ w.next.cells → CalmO None n w (effects_run app w s)
  effects_calm n w s low =
      let v : State K = change w s (λ x. record x { effects = [] }) in
      let f : Quiet w v = change_quiet w s (λ x. record x { effects = [] }) (λ x. refl) in
      let rises = f.rises in
      let more : n ≤ v.next.cells = omega (arith, low, rises) in
      from_calm None n w v (effects_run app w s) (quiet_calm None n w v f) (batch_calm n v s (effects_of w s) more)

  heard_at : (n : ℕ) (m : Machine K) (l : Listener K) (ls : List (Listener K)) (meaning : Meaning K (Event K)) (o : Option CallFault) → n ≤ m.state.next.cells → IsNumbered m.state.next meaning.commands meaning.next
      → Calm None n m.state (elim o as (λ z. Machine K) [
        | None ↦
            then_looked
            (record m {
              state = commands app (with_next m.state meaning.next) l.origin None meaning.commands;
              event = Some meaning.answer;
              default_enabled = not meaning.answer.prevented;
              listeners = further app m meaning.answer ls;
            })
        | Some f ↦ record m { state = with_next m.state meaning.next; listeners = ls; dead = Some (fault_of f); refused = None }
      ]).state
  heard_at n m l ls meaning None low numbered =
      let v : Machine K = record m {
        state = commands app (with_next m.state meaning.next) l.origin None meaning.commands;
        event = Some meaning.answer;
        default_enabled = not meaning.answer.prevented;
        listeners = further app m meaning.answer ls;
      } in
      calm_then None n m.state v.state (then_looked v).state (called_calm n m.state l.origin None meaning low numbered) (quiet_calm None n v.state (then_looked v).state (then_looked_quiet v))
  heard_at n m l ls meaning (Some f) low numbered = quiet_calm None n m.state (with_next m.state meaning.next) (next_quiet m.state meaning.next (cells_rise m.state.next meaning.next meaning.commands numbered))

  pub heard_calm : (n : ℕ) (m : Machine K) (l : Listener K) (ls : List (Listener K)) (o : Option (Event K)) → n ≤ m.state.next.cells → Calm None n m.state (heard_event app m l ls o).state
  heard_calm n m l ls None low = calm_refl None n m.state
  heard_calm n m l ls (Some event) low =
      let world : World K = world_of m.state l.origin None false in
      let meaning : Meaning K (Event K) = app.handle l.handler event world in
      let u : Machine K = record m { state = called_once m.state } in
      calm_then None n m.state u.state (heard_event app m l ls (Some event)).state (quiet_calm None n m.state u.state (once_quiet m.state))
      (heard_at n u l ls meaning meaning.fault low (lawful.handlers_number l.handler event world))
