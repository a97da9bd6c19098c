-- A listener is called: what the definitions' machine makes of it, and what follows for the one that waits first.
use Rattle.std.proofs.Common.{true, not, List, [], ◌∷◌, ◌++◌, ◌≡◌, refl, sym, ap, ◌∙◌, Ok, Err}
use Rattle.std.specs.Prelude.{Option, Some, None}
use Rattle.rt_model.specs.OneLog.{types}
use Rattle.rt_model.specs.Tree.{Types}
use Rattle.rt_model.specs.World.{Application, CallFault, Event, Meaning}
use Rattle.rt_model.specs.State as model
use Rattle.rt_model.specs.State.{world_of}
use Rattle.rt_model.specs.Commands.{commands}
use Rattle.rt_model.specs.Run as run
use Rattle.rt_model.specs.Run.{called_once, with_next}
use Rattle.rt_model.specs.Heard.{Listener}
use Rattle.rt_model.specs.Replay as replay
use Rattle.rt_model.specs.Replay.{then_looked, further, heard_event, heard_by, waiting}
use Rattle.rt_scopes.specs.Hearings.{hearing, Heard, HearsAs as Called}
use Rattle.run_state.specs.Mirror.{Unkept}
use Rattle.run_state.specs.declared.names.Stop.{Stop}
use Rattle.run_state.specs.declared.names.Stop.TheVariants as stops
use Rattle.run_outside.specs.Hearings.{event_in, bubbles_in, hearing_at, silent}
use Rattle.run_outside.specs.declared.hearing.Hearing.{Hearing as CodeHearing}
use Rattle.run_machine.specs.Machines.{HearsAs, CallsAs}

module _ {K : Types} (app : Application K) where
  -- a machine after a call that met no refusal, before the look
  abbrev pub called : replay.Machine K → List (Listener K) → model.State K → Event K → replay.Machine K
  called m ls v after = record m { state = v; event = Some after; default_enabled = not after.prevented; listeners = further app m after ls }

  by_none : (m : replay.Machine K) (l : Listener K) (ls : List (Listener K)) (meaning : Meaning K (Event K)) → meaning.fault ≡ None
      → heard_by app m l ls meaning ≡ then_looked (called m ls (commands app (with_next m.state meaning.next) l.origin None meaning.commands) meaning.answer)
  by_none m l ls meaning h = rw h refl

  by_some : (m : replay.Machine K) (l : Listener K) (ls : List (Listener K)) (meaning : Meaning K (Event K)) (f : CallFault) → meaning.fault ≡ Some f
      → heard_by app m l ls meaning ≡ record m { state = with_next m.state meaning.next; listeners = ls; dead = Some (run.fault_of f); refused = None }
  by_some m l ls meaning f h = rw h refl

  -- a call that met no refusal
  pub call_heard : (m : replay.Machine K) (l : Listener K) (ls : List (Listener K)) (event after : Event K) (v : model.State K)
      → Heard app m.state l.origin (hearing app m.state l.origin l.handler event) v after
      → heard_event app m l ls (Some event) ≡ then_looked (called m ls v after)
  call_heard m l ls event after v h =
      let meaning = hearing app m.state l.origin l.handler event in
      by_none (record m { state = called_once m.state }) l ls meaning h.met
      ∙ ap (λ w. then_looked (called m ls w meaning.answer)) (sym h.state)
      ∙ ap (λ e. then_looked (called m ls v e)) (sym h.event)

  -- a call that met one
  pub call_cut : (m : replay.Machine K) (l : Listener K) (ls : List (Listener K)) (before after : List replay.Entry) (now : Unkept K → replay.Machine K) (event given : Event K) (v : model.State K) (stop : Stop)
      → m.event ≡ Some event
      → m.refused ≡ None
      → Called app m.state l.origin (hearing app m.state l.origin l.handler event) v given (Err stop)
      → after ≡ before ++ replay.Heard l.origin ∷ []
      → CallsAs app m l ls before after now (Err stop)
  call_cut m l ls before after now event given v stops.OutOfMemory is clear h logged = tt
  call_cut m l ls before after now event given v (stops.Fault what) is clear h logged =
      let meaning = hearing app m.state l.origin l.handler event in
      let u = record m { state = with_next (called_once m.state) meaning.next; listeners = ls; dead = Some (run.fault_of h.refusal); refused = None } in (
        u,
        ap (λ (e : Option (Event K)). heard_event app m l ls e) is ∙ by_some (record m { state = called_once m.state }) l ls meaning h.refusal h.met,
        ap Some (sym h.cause),
        refl,
        logged,
      )

  -- the call of the one that waits first
  pub first_called : (m : replay.Machine K) (l : Listener K) (ls : List (Listener K)) (before after : List replay.Entry) (now : Unkept K → replay.Machine K)
      → waiting m ≡ l ∷ ls
      → CallsAs app m l ls before after now (Ok tt)
      → HearsAs app m before after now (Ok true)
  first_called m l ls before after now waits h = (h.0, record { first = l; others = ls; waits = waits; heard_is = h.1; logged = h.2 })

  pub first_cut : (m : replay.Machine K) (l : Listener K) (ls : List (Listener K)) (before after : List replay.Entry) (now : Unkept K → replay.Machine K) (stop : Stop)
      → waiting m ≡ l ∷ ls
      → CallsAs app m l ls before after now (Err stop)
      → HearsAs app m before after now (Err stop)
  first_cut m l ls before after now stops.OutOfMemory waits h = tt
  first_cut m l ls before after now (stops.Fault what) waits h =
      record { left = h.0; one = record { first = l; others = ls; waits = waits; heard_is = h.1; logged = h.4 }; dead = h.2; refused = h.3 }

module _ {P C Q V H T E L : Type 0} where
  -- where no listener waits any more
  pub silent_is : (m : replay.Machine (types C Q V H T E L)) (w : model.State (types C Q V H T E L)) (o : Option (CodeHearing P C Q V H T E L))
      → record m { state = w; listeners = []; event = event_in o; bubbles = bubbles_in o } ≡ hearing_at m w (silent o)
  silent_is m w None = refl
  silent_is m w (Some h) = refl
