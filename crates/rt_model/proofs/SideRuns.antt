-- What calls, hooks, looks and removals leave as it was: the sides of each scope that lives on.
use Rattle.std.proofs.Common.{ℕ, Bool, true, List, [], ◌∷◌, ◌++◌, refl, sym, ap, ◌∙◌, nat_eq}
use Rattle.std.specs.Prelude.{Option, Some, None}
use Rattle.rt_model.specs.Tree.{Types, Element}
use Rattle.rt_model.specs.World.{after_render_kind, CallFault, Hook, Command, World, Meaning, Nothing, Application}
use Rattle.rt_model.specs.Laws.{IsNumbered, IsLawful}
use Rattle.rt_model.specs.State.{Scope, State, Outcome, Done, Cut, onward, change, hooks_of, world_of}
use Rattle.rt_model.specs.Commands.{commands}
use Rattle.rt_model.specs.Next.{look, at_rest}
use Rattle.rt_model.specs.Run.{fault_of, with_next, kept_call, unmarked, hooks_called, after_hooks, settled_answer, called_once}
use Rattle.rt_model.specs.Boundary.{counted_render, called_back}
use Rattle.rt_model.specs.Removal.{clean_ups, without_scope, gone, stopped, cleaned, removed}
use Rattle.rt_model.specs.Replay.{mounted_state, polled, effects_run}
use Rattle.rt_model.proofs.Maps.{by_test, none_some, at_without_here, at_without_other}
use Rattle.rt_model.specs.Framed.{framed}
use Rattle.rt_model.proofs.TourLooks as looks
use Rattle.rt_model.proofs.TourCalls as calls
use Rattle.rt_model.proofs.TourCalls.{state_of, Goes, Calls}
use Rattle.rt_model.proofs.SideFrames.{Stay, framed_steady, stay_trans, stay_equal, stay_kept, stay_rest, change_stay, commands_stay}

module _ {K : Types} where
  -- where a change isn't cut the sides stay
  abbrev pub StayO : State K → Outcome K → Type 0
  StayO w (Done v work) = Stay w v
  StayO w (Cut v fault) = Unit {0}

  pub stay_goes : Goes framed Stay (λ (w : State K). 0)
  stay_goes = record { after = stay_trans; small = stay_kept }

  stay_o : (w : State K) (o : Outcome K) → Stay w (state_of o) → StayO w o
  stay_o w (Done v work) h = h
  stay_o w (Cut v fault) h = tt

  -- a change, then one that may be cut
  pub from_stay : (w v : State K) (o : Outcome K) → Stay w v → StayO v o → StayO w o
  from_stay w v (Done u work) h g = stay_trans w v u h g
  from_stay w v (Cut u fault) h g = tt

  -- two changes that may be cut, one after the other
  pub onward_stay : (w : State K) (o : Outcome K) (f : State K → Outcome K) → StayO w o → ((v : State K) → StayO v (f v)) → StayO w (onward o f)
  onward_stay w (Done v work) f h g = from_stay w v (f v) h (g v)
  onward_stay w (Cut v fault) f h g = tt

  -- marks go
  pub unmarked_stay : (w : State K) (s : ℕ) → Stay w (unmarked w s)
  unmarked_stay w s = stay_kept w (unmarked w s) (looks.unmarked_kept framed 0 w s)

  -- a look
  pub look_stay : (w : State K) → Stay w (look w)
  look_stay w = stay_kept w (look w) (looks.look_kept framed 0 w)

  -- paused tasks are dropped
  pub rest_stay : (w : State K) → Stay w (at_rest w)
  rest_stay w = stay_kept w (at_rest w) (looks.rest_kept framed 0 w)

  -- shown scopes become mounted
  pub mounted_stay : (w : State K) → Stay w (mounted_state w)
  mounted_stay w = stay_kept w (mounted_state w) (looks.mounted_kept framed framed_steady 0 w)

  -- removals

  without_stay : (w : State K) (s : ℕ) → Stay w (without_scope w s)
  without_stay w s =
      record {
        frames =
            λ t x e.
            by_test (nat_eq s t)
            (λ q. none_some (at_without_here w.scopes s t q) e)
            (λ q. ap (λ (z : Option (Scope K)). framed z) (sym (at_without_other w.scopes s t q) ∙ e));
        elements = refl;
        next_scope = refl;
      }

  gone_stay : (w : State K) (s : ℕ) → Stay w (gone w s)
  gone_stay w s = stay_trans w (without_scope w s) (gone w s) (without_stay w s) (stay_kept (without_scope w s) (gone w s) (looks.gone_kept framed 0 w s))

  stopped_stay : (w : State K) (s : ℕ) → Stay w (stopped w s)
  stopped_stay w s = stay_kept w (stopped w s) (looks.stopped_kept framed framed_steady 0 w s)

module _ {K : Types} (app : Application K) (lawful : IsLawful K app) where
  -- the next numbers of a call
  pub next_stay : {A : Type 0} (w : State K) (m : Meaning K A) → IsNumbered w.next m.commands m.next → Stay w (with_next w m.next)
  next_stay w m n = stay_equal w (with_next w m.next) (λ s. refl) n.elements refl

  -- and its commands
  pub called_stay : {A : Type 0} (w : State K) (s : ℕ) (polled : Option ℕ) (m : Meaning K A) → IsNumbered w.next m.commands m.next → Stay w (commands app (with_next w m.next) s polled m.commands)
  called_stay w s polled m n = stay_trans w (with_next w m.next) _ (next_stay w m n) (commands_stay app (with_next w m.next) s polled m.commands)

  -- a body's call is kept, then its commands are done
  pub kept_stay : (w : State K) (s : ℕ) (world : World K) (m : Meaning K (Element K)) → IsNumbered w.next m.commands m.next → Stay w (commands app (kept_call w s world m) s None m.commands)
  kept_stay w s world m n =
      stay_trans w (with_next w m.next) _ (next_stay w m n)
      (stay_trans (with_next w m.next) (kept_call w s world m) _
      (stay_trans (with_next w m.next) (change (with_next w m.next) s (λ x. record x { reads = m.reads })) (kept_call w s world m)
      (change_stay (with_next w m.next) s (λ x. record x { reads = m.reads }) (λ x. refl))
      (stay_rest (change (with_next w m.next) s (λ x. record x { reads = m.reads })) (kept_call w s world m) refl refl refl))
      (commands_stay app (kept_call w s world m) s None m.commands))

  once_stay : (w : State K) → Stay w (called_once w)
  once_stay w = stay_kept w (called_once w) (looks.once_kept framed 0 w)

  -- a call's next numbers and its commands leave the sides
  pub stay_calls : Calls framed Stay (λ (w : State K). 0) framed_steady stay_goes app (λ f cs g. IsNumbered f cs g)
  stay_calls = record { effects = lawful.effects_number; polls = lawful.polls_number; next = next_stay; called = called_stay }

  -- the hooks of one kind
  pub hooks_stay : (kind : ℕ) (w : State K) (s : ℕ) (hs : List (Hook K)) → StayO w (hooks_called app kind w s hs)
  hooks_stay kind w s hs =
      stay_o w (hooks_called app kind w s hs) (calls.hooks_goes framed Stay (λ v. 0) framed_steady stay_goes app (λ f cs g. IsNumbered f cs g) stay_calls kind w s hs)

  -- the hooks after a render
  pub after_hooks_stay : (w : State K) (s : ℕ) → StayO w (after_hooks app w s)
  after_hooks_stay w s = hooks_stay after_render_kind w s (hooks_of w s)

  -- what an answer counts, throws or holds
  pub settled_answer_stay : (w : State K) (s : ℕ) (a : Element K) → StayO w (settled_answer app w s a)
  settled_answer_stay w s a = stay_o w (settled_answer app w s a) (calls.settled_answer_goes framed Stay (λ v. 0) framed_steady stay_goes app w s a)

  -- a render is counted
  pub counted_stay : (w : State K) (b : ℕ) (c : Bool) → StayO w (counted_render app w b c)
  counted_stay w b c = stay_o w (counted_render app w b c) (calls.counted_goes framed Stay (λ v. 0) framed_steady stay_goes app w b c)

  -- the callbacks of a boundary
  pub called_back_stay : (w : State K) (es : List (ℕ × K.Effect)) → StayO w (called_back app w es)
  called_back_stay w es =
      stay_o w (called_back app w es) (calls.called_back_goes framed Stay (λ v. 0) framed_steady stay_goes app (λ f cs g. IsNumbered f cs g) stay_calls w es)

  cleaned_at : (s : ℕ) (es : List K.Effect) (w : State K) (waiting : List (Command K)) (m : Meaning K Nothing) (o : Option CallFault)
      → IsNumbered w.next m.commands m.next
      → StayO (with_next w m.next) (cleaned app s es (with_next w m.next) (waiting ++ m.commands))
      → StayO w (elim o [ None ↦ cleaned app s es (with_next w m.next) (waiting ++ m.commands) | Some f ↦ Cut (with_next w m.next) (fault_of f) ])
  cleaned_at s es w waiting m None n h = from_stay w (with_next w m.next) (cleaned app s es (with_next w m.next) (waiting ++ m.commands)) (next_stay w m n) h
  cleaned_at s es w waiting m (Some f) n h = tt

  cleaned_stay : (s : ℕ) (es : List K.Effect) (w : State K) (waiting : List (Command K)) → StayO w (cleaned app s es w waiting)
  cleaned_stay s [] w waiting = stay_trans w (gone w s) (commands app (gone w s) s None waiting) (gone_stay w s) (commands_stay app (gone w s) s None waiting)
  cleaned_stay s (e ∷ es) w waiting =
      let m : Meaning K Nothing = app.effect e (world_of w s None true) in
      from_stay w (called_once w) (cleaned app s (e ∷ es) w waiting) (once_stay w)
      (cleaned_at s es (called_once w) waiting m m.fault (lawful.effects_number e (world_of w s None true)) (cleaned_stay s es (with_next (called_once w) m.next) (waiting ++ m.commands)))

  -- a removal
  pub removed_stay : (w : State K) (s : ℕ) → StayO w (removed app w s)
  removed_stay w s =
      let v : State K = stopped w s in from_stay w v (removed app w s) (stopped_stay w s) (cleaned_stay s (clean_ups (hooks_of v s) []) v [])

  -- polls and effects

  -- a poll
  pub polled_stay : (w : State K) (t : ℕ) → StayO w (polled app w t)
  polled_stay w t = stay_o w (polled app w t) (calls.polled_goes framed Stay (λ v. 0) framed_steady stay_goes app (λ f cs g. IsNumbered f cs g) stay_calls w t)

  -- the effects of a scope
  pub effects_stay : (w : State K) (s : ℕ) → StayO w (effects_run app w s)
  effects_stay w s = stay_o w (effects_run app w s) (calls.effects_goes framed Stay (λ v. 0) framed_steady stay_goes app (λ f cs g. IsNumbered f cs g) stay_calls w s)
