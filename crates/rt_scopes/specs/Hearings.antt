-- What a listener makes of an event.
use Rattle.std.specs.Prelude.{◌≡◌, ℕ, false, None, Some, Result, Ok, Err}
use Rattle.tree_nodes.specs.declared.event.Event.{Event as CodeEvent}
use Rattle.rt_model.specs.Tree.{Types}
use Rattle.rt_model.specs.OneLog.{types}
use Rattle.rt_model.specs.World.{Application, CallFault, Event, Meaning}
use Rattle.rt_model.specs.State as model
use Rattle.rt_model.specs.State.{Fault, world_of}
use Rattle.rt_model.specs.Commands.{commands}
use Rattle.rt_model.specs.Run as run
use Rattle.rt_model.specs.Run.{called_once, with_next}
use Rattle.author_calls.specs.Answers.{event_of}
use Rattle.run_state.specs.declared.names.Stop.{Stop}
use Rattle.run_state.specs.declared.names.Stop.TheVariants as stops
use Rattle.run_state.specs.Mirror.{Unkept, state_of}
use Rattle.run_state.specs.Names.{fault_of}
use Rattle.run_state.specs.declared.state.State.{State}
use Rattle.rt_scopes.specs.Counts.{CountsOn}

module _ {K : Types} (app : Application K) where
  -- what a listener of a scope makes of an event in the present world
  abbrev pub hearing : model.State K → ℕ → K.Handler → Event K → Meaning K (Event K)
  hearing w s handler event = app.handle handler event (world_of w s None false)

  -- it met no refusal: what it asked for is done, and the event is as it left it
  pub record Heard (w : model.State K) (s : ℕ) (m : Meaning K (Event K)) (v : model.State K) (after : Event K) : Type 0 where
    pub met : m.fault ≡ None
    pub state : v ≡ commands app (with_next (called_once w) m.next) s None m.commands
    pub event : after ≡ m.answer

  -- it met a refusal, which is this fault: the numbers that it drew are gone
  pub record HeardInPart (w : model.State K) (m : Meaning K (Event K)) (v : model.State K) (fault : Fault) : Type 0 where
    pub refusal : CallFault
    pub met : m.fault ≡ Some refusal
    pub state : v ≡ with_next (called_once w) m.next
    pub cause : fault ≡ run.fault_of refusal

  -- one of both; where memory was wanting nothing is said
  abbrev pub HearsAs : model.State K → ℕ → Meaning K (Event K) → model.State K → Event K → Result (Unit {0}) Stop → Type 0
  HearsAs w s m v after (Ok u) = Heard w s m v after
  HearsAs w s m v after (Err stops.OutOfMemory) = Unit {0}
  HearsAs w s m v after (Err (stops.Fault what)) = HeardInPart w m v (fault_of what)

module _ {P C Q V H T E L : Type 0} where
  -- a listener of a scope was called with an event
  abbrev pub Hears : Application (types C Q V H T E L) → State P C Q V H T E L → ℕ → ℕ → H → CodeEvent L → State P C Q V H T E L
      → ℕ → CodeEvent L → Result (Unit {0}) Stop → Type 0
  Hears app old old_count scope handler before new new_count after result =
      (g : Unkept (types C Q V H T E L))
      → (h : Unkept (types C Q V H T E L))
      × HearsAs app (state_of g old) scope (hearing app (state_of g old) scope handler (event_of before)) (state_of h new)
      (event_of after) result
      × CountsOn old_count g.calls new_count h.calls result
