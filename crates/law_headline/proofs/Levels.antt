-- Polls, effects, inputs and listeners change nothing that shows, and begin no unit; polls and effects open no work.
use Rattle.std.proofs.Common.{ℕ, ◌+◌, true, false, not, List, [], ◌∷◌, ◌≡◌, refl, ◌∙◌}
use Rattle.std.specs.Prelude.{Option, Some, None}
use Rattle.std.proofs.lemmas.List.{append-nil}
use Rattle.rt_model.specs.Lists.{at}
use Rattle.rt_model.specs.Tree.{Types}
use Rattle.rt_model.specs.World.{CallFault, Event, Meaning, TaskStep, Application}
use Rattle.rt_model.specs.State.{TaskRow, State, Outcome, Done, Cut, onward, change, world_of, effects_of}
use Rattle.rt_model.specs.Commands.{unqueued, commands}
use Rattle.rt_model.specs.Next.{look}
use Rattle.rt_model.specs.Run.{fault_of, with_next, called_once, acted}
use Rattle.rt_model.specs.Heard.{Listener}
use Rattle.rt_model.specs.Replay.{Input, EventAt, WakeOf, WriteOf, MarkOf, Drain, Machine, ended_by, waiting, looked_where_quiet, then_looked, taken_in, take_next, polled_to, polled_at, polled, batch_then, effects_run, further, heard_event, heard_first}
use Rattle.law_moves.proofs.Commanded.{Level, level_refl}
use Rattle.law_moves.proofs.Called.{LevelO, polled_level, effects_level}
use Rattle.law_headline.proofs.Calm.{heard_level as event_level}

module _ {K : Types} where
  -- no work is opened
  abbrev pub Idle : Outcome K → Type 0
  Idle (Done v work) = work ≡ []
  Idle (Cut v fault) = Unit {0}

  -- a change that shows nothing, and opens no work
  pub record Rests (w : State K) (o : Outcome K) : Type 0 where
    pub level : LevelO w o
    pub idle : Idle o

  onward_idle : (o : Outcome K) (f : State K → Outcome K) → ((v : State K) → Idle (f v)) → Idle (onward o f)
  onward_idle (Done v work) f h = h v
  onward_idle (Cut v fault) f h = tt

  level_at : (m : Machine K) (w : State K) (o : Outcome K) → LevelO w o → Level w (ended_by m None [] o).state
  level_at m w (Done v work) h = h
  level_at m w (Cut v fault) h = h

  idle_at : (m : Machine K) (o : Outcome K) → Idle o → (ended_by m None [] o).dead ≡ None → (ended_by m None [] o).work ≡ []
  idle_at m (Done v work) h alive = append-nil work ∙ h
  idle_at m (Cut v fault) h alive = cc

  -- so the machine shows the same after it, and has no work where it isn't cut
  pub ended_level : (m : Machine K) (w : State K) (o : Outcome K) → Rests w o → Level w (ended_by m None [] o).state
  ended_level m w o h = level_at m w o h.level

  pub ended_idle : (m : Machine K) (w : State K) (o : Outcome K) → Rests w o → (ended_by m None [] o).dead ≡ None → (ended_by m None [] o).work ≡ []
  ended_idle m w o h alive = idle_at m o h.idle alive

  quiet_unit : (m : Machine K) (ls : List (Listener K)) → (looked_where_quiet m ls).unit ≡ m.unit
  quiet_unit m [] = refl
  quiet_unit m (l ∷ ls) = refl

  taken_unit : (m : Machine K) (i : Input K) → (taken_in m i).unit ≡ m.unit
  taken_unit m (EventAt name payload element bubbles) = refl
  taken_unit m (WakeOf t) = refl
  taken_unit m (WriteOf n v) = refl
  taken_unit m (MarkOf s) = refl
  taken_unit m (Drain messages) = refl

  -- no unit begins with an input
  pub take_unit : (m : Machine K) (is : List (Input K)) → (take_next m is).unit ≡ m.unit
  take_unit m [] = refl
  take_unit m (i ∷ rest) =
      let u : Machine K = record m { inputs = rest; taken = m.taken + 1; units = 0; default_enabled = true; listeners = [] } in
      quiet_unit (taken_in u i) (waiting (taken_in u i)) ∙ taken_unit u i

module _ {K : Types} (app : Application K) where
  polled_idle : (w : State K) (t : ℕ) (x : TaskRow K) (m : Meaning K (TaskStep K)) (o : Option CallFault)
      → Idle (elim o [ None ↦ Done (polled_to app (with_next w m.next) t x m m.answer) [] | Some f ↦ Cut (with_next w m.next) (fault_of f) ])
  polled_idle w t x m None = refl
  polled_idle w t x m (Some f) = tt

  found_idle : (w : State K) (t : ℕ) (o : Option (TaskRow K)) → Idle (polled_at app w t o)
  found_idle w t None = refl
  found_idle w t (Some x) =
      let m : Meaning K (TaskStep K) = app.poll x.state (world_of w x.scope (Some t) false) in
      polled_idle (called_once w) t x m m.fault

  -- a poll
  pub polled_rests : (w : State K) (t : ℕ) → Rests w (polled app w t)
  polled_rests w t = record { level = polled_level app w t; idle = found_idle (unqueued w t) t (at w.tasks t) }

  batch_idle : (es : List K.Effect) (w : State K) (s : ℕ) → Idle (batch_then app look w s es)
  batch_idle [] w s = refl
  batch_idle (e ∷ es) w s = onward_idle (acted app w s e false) (λ v. batch_then app look v s es) (λ v. batch_idle es v s)

  -- the effects of a scope
  pub effects_rest : (w : State K) (s : ℕ) → Rests w (effects_run app w s)
  effects_rest w s = record { level = effects_level app w s; idle = batch_idle (effects_of w s) (change w s (λ x. record x { effects = [] })) s }

  -- a listener is called

  heard_fault_unit : (m : Machine K) (quiet : Machine K) (faulted : CallFault → Machine K) (o : Option CallFault) → quiet.unit ≡ m.unit → ((f : CallFault) → (faulted f).unit ≡ m.unit)
      → (elim o as (λ z. Machine K) [ None ↦ then_looked quiet | Some f ↦ faulted f ]).unit ≡ m.unit
  heard_fault_unit m quiet faulted None p q = quiet_unit quiet (waiting quiet) ∙ p
  heard_fault_unit m quiet faulted (Some f) p q = q f

  event_unit : (m : Machine K) (l : Listener K) (ls : List (Listener K)) (o : Option (Event K)) → (heard_event app m l ls o).unit ≡ m.unit
  event_unit m l ls None = refl
  event_unit m l ls (Some event) =
      let meaning : Meaning K (Event K) = app.handle l.handler event (world_of m.state l.origin None false) in
      let called : State K = called_once m.state in
      let quiet : Machine K = record m {
        state = commands app (with_next called meaning.next) l.origin None meaning.commands;
        event = Some meaning.answer;
        default_enabled = not meaning.answer.prevented;
        listeners = further app m meaning.answer ls;
      } in
      heard_fault_unit m quiet (λ f. record m { state = with_next called meaning.next; listeners = ls; dead = Some (fault_of f); refused = None }) meaning.fault refl (λ f. refl)

  pub heard_level : (m : Machine K) (ls : List (Listener K)) → Level m.state (heard_first app m ls).state
  heard_level m [] = level_refl m.state
  heard_level m (l ∷ ls) = event_level app m l ls m.event

  pub heard_unit : (m : Machine K) (ls : List (Listener K)) → (heard_first app m ls).unit ≡ m.unit
  heard_unit m [] = refl
  heard_unit m (l ∷ ls) = event_unit m l ls m.event
