-- What calls, hooks, callbacks and removals leave as it was, also where a fault cuts them: the sides of each scope that lives on.
use Rattle.std.proofs.Common.{ℕ, Bool, true, false, not, List, [], ◌∷◌, ◌++◌, refl}
use Rattle.std.specs.Prelude.{Option, Some, None}
use Rattle.rt_model.specs.Tree.{Types, Element}
use Rattle.rt_model.specs.World.{CallFault, Hook, Command, World, Meaning, Nothing, Event, Application}
use Rattle.rt_model.specs.Laws.{IsNumbered, IsLawful}
use Rattle.rt_model.specs.Framed.{framed}
use Rattle.rt_model.specs.State.{State, Outcome, Done, Cut, onward, change, hooks_of, world_of}
use Rattle.rt_model.specs.Commands.{commands}
use Rattle.rt_model.specs.Run.{fault_of, with_next, kept_call, hooks_called, after_hooks, settled_answer, called_once}
use Rattle.rt_model.specs.Boundary.{counted_render, called_back}
use Rattle.rt_model.specs.Removal.{clean_ups, stopped, cleaned, removed}
use Rattle.rt_model.specs.Heard.{Listener}
use Rattle.rt_model.specs.Replay.{Machine, then_looked, polled, effects_run, further, heard_event}
use Rattle.rt_model.proofs.Begun.{then_looked_calm}
use Rattle.rt_model.proofs.TourLooks as looks
use Rattle.rt_model.proofs.TourCalls as calls
use Rattle.rt_model.proofs.TourCalls.{state_of}
use Rattle.rt_model.proofs.SideFrames.{Stay, framed_steady, stay_trans, stay_refl, stay_kept, stay_rest, change_stay}
use Rattle.rt_model.proofs.SideRuns.{stay_goes, stay_calls, next_stay, called_stay}

module _ {K : Types} where
  -- a change leaves the sides, also where it is cut
  abbrev pub Stays : State K → Outcome K → Type 0
  Stays w o = Stay w (state_of o)

  -- where it is cut it does
  abbrev pub StaysCut : State K → Outcome K → Type 0
  StaysCut w (Done v work) = Unit {0}
  StaysCut w (Cut v fault) = Stay w v

  -- two changes that may be cut, one after the other
  pub onward_stays : (w : State K) (o : Outcome K) (f : State K → Outcome K) → Stays w o → ((v : State K) → Stays v (f v)) → Stays w (onward o f)
  onward_stays w o f h g = calls.onward_goes framed Stay (λ v. 0) framed_steady stay_goes w o f h g

  from_cut : (w v : State K) (o : Outcome K) → Stay w v → StaysCut v o → StaysCut w o
  from_cut w v (Done u work) f g = tt
  from_cut w v (Cut u fault) f g = stay_trans w v u f g

module _ {K : Types} (app : Application K) (lawful : IsLawful K app) where
  -- a body's call is kept
  pub call_stays : (w : State K) (s : ℕ) (world : World K) (m : Meaning K (Element K)) → IsNumbered w.next m.commands m.next → Stay w (kept_call w s world m)
  call_stays w s world m n =
      let v : State K = change (with_next w m.next) s (λ x. record x { reads = m.reads }) in
      stay_trans w (with_next w m.next) (kept_call w s world m) (next_stay app lawful w m n)
      (stay_trans (with_next w m.next) v (kept_call w s world m)
      (change_stay (with_next w m.next) s (λ x. record x { reads = m.reads }) (λ x. refl))
      (stay_rest v (kept_call w s world m) refl refl refl))

  -- the hooks of one kind, and those after a render
  pub hooks_stays : (kind : ℕ) (w : State K) (s : ℕ) (hs : List (Hook K)) → Stays w (hooks_called app kind w s hs)
  hooks_stays kind w s hs = calls.hooks_goes framed Stay (λ v. 0) framed_steady stay_goes app (λ f cs g. IsNumbered f cs g) (stay_calls app lawful) kind w s hs

  pub after_hooks_stays : (w : State K) (s : ℕ) → Stays w (after_hooks app w s)
  after_hooks_stays w s = calls.after_hooks_goes framed Stay (λ v. 0) framed_steady stay_goes app (λ f cs g. IsNumbered f cs g) (stay_calls app lawful) w s

  -- what an answer counts, throws or holds
  pub answer_stays : (w : State K) (s : ℕ) (a : Element K) → Stays w (settled_answer app w s a)
  answer_stays w s a = calls.settled_answer_goes framed Stay (λ v. 0) framed_steady stay_goes app w s a

  -- a render is counted
  pub counted_stays : (w : State K) (b : ℕ) (c : Bool) → Stays w (counted_render app w b c)
  counted_stays w b c = calls.counted_goes framed Stay (λ v. 0) framed_steady stay_goes app w b c

  -- the callbacks of a boundary
  pub called_back_stays : (w : State K) (es : List (ℕ × K.Effect)) → Stays w (called_back app w es)
  called_back_stays w es = calls.called_back_goes framed Stay (λ v. 0) framed_steady stay_goes app (λ f cs g. IsNumbered f cs g) (stay_calls app lawful) w es

  -- a poll, and the effects of a scope
  pub polled_stays : (w : State K) (t : ℕ) → Stays w (polled app w t)
  polled_stays w t = calls.polled_goes framed Stay (λ v. 0) framed_steady stay_goes app (λ f cs g. IsNumbered f cs g) (stay_calls app lawful) w t

  pub effects_stays : (w : State K) (s : ℕ) → Stays w (effects_run app w s)
  effects_stays w s = calls.effects_goes framed Stay (λ v. 0) framed_steady stay_goes app (λ f cs g. IsNumbered f cs g) (stay_calls app lawful) w s

  -- removals: where a clean-up is cut

  cleaned_at : (s : ℕ) (es : List K.Effect) (w : State K) (waiting : List (Command K)) (m : Meaning K Nothing) (o : Option CallFault)
      → IsNumbered w.next m.commands m.next
      → StaysCut (with_next w m.next) (cleaned app s es (with_next w m.next) (waiting ++ m.commands))
      → StaysCut w (elim o as (λ z. Outcome K) [ None ↦ cleaned app s es (with_next w m.next) (waiting ++ m.commands) | Some f ↦ Cut (with_next w m.next) (fault_of f) ])
  cleaned_at s es w waiting m None n h = from_cut w (with_next w m.next) (cleaned app s es (with_next w m.next) (waiting ++ m.commands)) (next_stay app lawful w m n) h
  cleaned_at s es w waiting m (Some f) n h = next_stay app lawful w m n

  cleaned_cut : (s : ℕ) (es : List K.Effect) (w : State K) (waiting : List (Command K)) → StaysCut w (cleaned app s es w waiting)
  cleaned_cut s [] w waiting = tt
  cleaned_cut s (e ∷ es) w waiting =
      let m : Meaning K Nothing = app.effect e (world_of w s None true) in
      from_cut w (called_once w) (cleaned app s (e ∷ es) w waiting) (stay_rest w (called_once w) refl refl refl)
      (cleaned_at s es (called_once w) waiting m m.fault (lawful.effects_number e (world_of w s None true)) (cleaned_cut s es (with_next (called_once w) m.next) (waiting ++ m.commands)))

  pub removed_cut : (w : State K) (s : ℕ) → StaysCut w (removed app w s)
  removed_cut w s =
      let v : State K = stopped w s in
      from_cut w v (removed app w s) (stay_kept w v (looks.stopped_kept framed framed_steady 0 w s)) (cleaned_cut s (clean_ups (hooks_of v s) []) v [])

  -- a listener is called

  heard_at : (m : Machine K) (l : Listener K) (ls : List (Listener K)) (meaning : Meaning K (Event K)) (o : Option CallFault) → IsNumbered m.state.next meaning.commands meaning.next
      → Stay m.state (elim o as (λ z. Machine K) [
        | None ↦
            then_looked
            (record m {
              state = commands app (with_next m.state meaning.next) l.origin None meaning.commands;
              event = Some meaning.answer;
              default_enabled = not meaning.answer.prevented;
              listeners = further app m meaning.answer ls;
            })
        | Some f ↦ record m { state = with_next m.state meaning.next; listeners = ls; dead = Some (fault_of f); refused = None }
      ]).state
  heard_at m l ls meaning None n =
      let v : Machine K = record m {
        state = commands app (with_next m.state meaning.next) l.origin None meaning.commands;
        event = Some meaning.answer;
        default_enabled = not meaning.answer.prevented;
        listeners = further app m meaning.answer ls;
      } in
      stay_trans m.state v.state (then_looked v).state (called_stay app lawful m.state l.origin None meaning n) (then_looked_calm v).stays
  heard_at m l ls meaning (Some f) n = next_stay app lawful m.state meaning n

  pub heard_stays : (m : Machine K) (l : Listener K) (ls : List (Listener K)) (o : Option (Event K)) → Stay m.state (heard_event app m l ls o).state
  heard_stays m l ls None = stay_refl m.state
  heard_stays m l ls (Some event) =
      let world : World K = world_of m.state l.origin None false in
      let meaning : Meaning K (Event K) = app.handle l.handler event world in
      let u : Machine K = record m { state = called_once m.state } in
      stay_trans m.state u.state (heard_event app m l ls (Some event)).state (stay_rest m.state u.state refl refl refl)
      (heard_at u l ls meaning meaning.fault (lawful.handlers_number l.handler event world))
