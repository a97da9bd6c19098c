-- An event on its way through the listeners that hear it.
use Rattle.std.specs.Prelude.{◌≡◌, Bool, false, not, List, [], ◌∷◌, Option, Some, None}
use Rattle.rt_model.specs.Lists.{kept_by}
use Rattle.rt_model.specs.OneLog.{types}
use Rattle.rt_model.specs.Tree as tree
use Rattle.rt_model.specs.World as world
use Rattle.rt_model.specs.State.{State, is_live}
use Rattle.rt_model.specs.Heard as heard
use Rattle.rt_model.specs.Replay as replay
use Rattle.author_calls.specs.Answers.{event_of}
use Rattle.run_shown.specs.Hearing.{listener_in, listeners_of}
use Rattle.run_shown.specs.declared.hearing.Listener.{Listener}
use Rattle.run_outside.specs.declared.hearing.Hearing.{Hearing}

module _ {K : tree.Types} where
  -- the listeners whose scopes are live
  abbrev pub live_listeners : State K → List (heard.Listener K) → List (heard.Listener K)
  live_listeners w ls = kept_by (λ l. is_live w l.origin) ls

  -- some listener waits whose scope is live
  abbrev pub has_waiting : State K → List (heard.Listener K) → Bool
  has_waiting w ls = not (replay.no_listener (live_listeners w ls))

module _ {P C Q V H T E L : Type 0} where
  -- where an event is on its way: the listeners that wait, the event, and whether it bubbles
  abbrev pub listeners_in : Option (Hearing P C Q V H T E L) → List (heard.Listener (types C Q V H T E L))
  listeners_in None = []
  listeners_in (Some h) = listeners_of h.listeners

  -- the event
  abbrev pub event_in : Option (Hearing P C Q V H T E L) → Option (world.Event (types C Q V H T E L))
  event_in None = None
  event_in (Some h) = Some (event_of h.event)

  -- whether it bubbles
  abbrev pub bubbles_in : Option (Hearing P C Q V H T E L) → Bool
  bubbles_in None = false
  bubbles_in (Some h) = h.bubbles

  -- no listener waits any more
  abbrev pub silent : Option (Hearing P C Q V H T E L) → Option (Hearing P C Q V H T E L)
  silent None = None
  silent (Some h) = Some (record h { listeners = [] })

  -- a machine at this state, with this event on its way
  abbrev pub hearing_at : replay.Machine (types C Q V H T E L) → State (types C Q V H T E L) → Option (Hearing P C Q V H T E L)
      → replay.Machine (types C Q V H T E L)
  hearing_at m w h = record m { state = w; listeners = listeners_in h; event = event_in h; bubbles = bubbles_in h }

  -- the first listener that waits is taken, and the others that wait are left; where none waits all stay
  abbrev pub TakesWaiting : State (types C Q V H T E L) → Option (Listener P C Q V H T E L) → List (Listener P C Q V H T E L)
      → List (Listener P C Q V H T E L) → Type 0
  TakesWaiting w None old new = (live_listeners w (listeners_of old) ≡ []) × (new ≡ old)
  TakesWaiting w (Some l) old new = live_listeners w (listeners_of old) ≡ listener_in l ∷ listeners_of new
