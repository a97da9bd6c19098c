-- The tour of what calls leave goes on: a task that is polled at once, and no look follows.
use Rattle.std.proofs.Common.{ℕ, false, List, [], ◌≡◌, refl}
use Rattle.std.specs.Prelude.{Option, Some, None}
use Rattle.rt_model.specs.Lists.{at, put}
use Rattle.rt_model.specs.Tree.{Types}
use Rattle.rt_model.specs.World.{Firsts, CallFault, Command, Meaning, TaskStep, pending, ready, Application}
use Rattle.rt_model.specs.State.{Scope, TaskRow, State, Outcome, Done, Cut, world_of}
use Rattle.rt_model.specs.Asides.{left_of}
use Rattle.rt_model.specs.Commands.{unqueued, end, commands}
use Rattle.rt_model.specs.Next.{is_active}
use Rattle.rt_model.specs.Run.{fault_of, with_next, called_once}
use Rattle.rt_model.specs.Replay.{left_by_poll, poll_meant, polled_apart_at, polled_apart, polled_now}
use Rattle.rt_model.proofs.Tour.{Steady, kept_rest, end_kept, task_kept}
use Rattle.rt_model.proofs.TourLooks.{once_kept}
use Rattle.rt_model.proofs.TourCalls.{state_of, Goes, Calls, none_goes, from_goes, either_goes}

module _ {K : Types} {A : Type 0} (sees : Option (Scope K) → A) (R : State K → State K → Type 0) (bound : State K → ℕ)
    (steady : Steady sees) (goes : Goes sees R bound) where
  left_goes : (w : State K) (o : Outcome K) → R w (state_of o) → R w (left_of w o)
  left_goes w (Done v work) h = h
  left_goes w (Cut v fault) h = none_goes sees R bound steady goes w

  module _ (app : Application K) (Counts : Firsts → List (Command K) → Firsts → Type 0) (calls : Calls sees R bound steady goes app Counts) where
    left_by_goes : (w : State K) (t : ℕ) (x : TaskRow K) (m : Meaning K (TaskStep K)) (a : TaskStep K) → at w.tasks t ≡ Some x
        → Counts w.next m.commands m.next
        → R w (left_by_poll app (with_next w m.next) t x m a)
    left_by_goes w t x m (pending a) live n =
        let v : State K = record w { tasks = put w.tasks t (record x { state = a }) } in
        let done : State K = commands app (with_next v m.next) x.scope (Some t) m.commands in
        goes.after w v done (goes.small w v (task_kept sees steady (bound w) w t x (record x { state = a }) live)) (calls.called v x.scope (Some t) m n)
    left_by_goes w t x m ready live n =
        let done : State K = commands app (with_next w m.next) x.scope (Some t) m.commands in
        goes.after w done (end done t) (calls.called w x.scope (Some t) m n) (goes.small done (end done t) (end_kept sees steady (bound done) done t))

    apart_by_goes : (w : State K) (t : ℕ) (x : TaskRow K) (m : Meaning K (TaskStep K)) (o : Option CallFault) → at w.tasks t ≡ Some x
        → Counts w.next m.commands m.next
        → R w (state_of (elim o as (λ z. Outcome K) [
          | None ↦ Done (left_by_poll app (with_next w m.next) t x m m.answer) []
          | Some f ↦ Cut (with_next w m.next) (fault_of f)
        ]))
    apart_by_goes w t x m None live n = left_by_goes w t x m m.answer live n
    apart_by_goes w t x m (Some f) live n = calls.next w m n

    apart_at_goes : (w : State K) (t : ℕ) (o : Option (TaskRow K)) → at w.tasks t ≡ o → R w (state_of (polled_apart_at app w t o))
    apart_at_goes w t None live = none_goes sees R bound steady goes w
    apart_at_goes w t (Some x) live =
        let m : Meaning K (TaskStep K) = poll_meant app w t x in
        from_goes sees R bound steady goes w (called_once w) (polled_apart_at app w t (Some x)) (goes.small w (called_once w) (once_kept sees (bound w) w))
        (apart_by_goes (called_once w) t x m m.fault live (calls.polls x.state (world_of w x.scope (Some t) false)))

    apart_goes : (w : State K) (t : ℕ) → R w (state_of (polled_apart app w t))
    apart_goes w t =
        let v : State K = unqueued w t in
        from_goes sees R bound steady goes w v (polled_apart app w t) (goes.small w v (kept_rest sees (bound w) w v refl refl refl refl))
        (apart_at_goes v t (at w.tasks t) refl)

    -- what the poll leaves
    pub advanced_goes : (w : State K) (t : ℕ) → R w (left_of w (polled_now app w t))
    advanced_goes w t =
        left_goes w (polled_now app w t)
        (either_goes sees R bound steady goes w (is_active w t) (polled_apart app w t) (Done w []) (apart_goes w t) (none_goes sees R bound steady goes w))
