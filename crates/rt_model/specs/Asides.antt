-- What a program does to a runtime beside the entries of a log, where nothing is at work.
use Rattle.std.specs.Prelude.{ℕ, Bool, true, false, List, [], Some, None}
use Rattle.rt_model.specs.Lists.{Text}
use Rattle.rt_model.specs.Tree.{Types}
use Rattle.rt_model.specs.World.{Firsts, Command, Application}
use Rattle.rt_model.specs.Laws.{IsNumbered}
use Rattle.rt_model.specs.State.{State, Outcome, Done, Cut}
use Rattle.rt_model.specs.Run.{with_next}
use Rattle.rt_model.specs.Commands.{commands}
use Rattle.rt_model.specs.Next.{look, drops, at_rest}
use Rattle.rt_model.specs.Heard.{heard}
use Rattle.rt_model.specs.Replay.{Machine, polled_now}
use Rattle.rt_model.specs.Sentences.{marked_now, all_marked_now}
use Rattle.rt_model.specs.Rendering.{rendering_rest, polling_rest, nothing_resolved}

-- a call that logs no entry
pub data Aside (K : Types) : Type 0 where
  -- commands as of a call in this scope, which leaves these next numbers
  Asked : (scope : ℕ) → (next : Firsts) → (commands : List (Command K)) → Aside K
  -- a scope is marked, and seen at once
  Marked : (scope : ℕ) → Aside K
  -- so is every live scope
  AllMarked : Aside K
  -- a look
  Looked : Aside K
  -- the drops of paused tasks that come up
  Thinned : Aside K
  -- the test for what is next
  Rested : Aside K
  -- an event comes to those that hear it, its default prevented or not
  Raised : (name : Text) → (payload : K.Payload) → (element : ℕ) → (bubbles : Bool) → (prevented : Bool) → Aside K
  -- a render while suspended looks, and passes over what it may not take
  Passed : Aside K
  -- a poll of suspended work looks, and passes over the tasks that it may not poll
  Polling : Aside K
  -- the answer of such a render was taken
  Answered : Aside K
  -- a task is polled at once, and no look follows
  Advanced : (task : ℕ) → Aside K

module _ {K : Types} where
  -- it passes over nothing
  abbrev pub PassesNone : Aside K → Type 0
  PassesNone Passed = ⊥
  PassesNone Polling = ⊥
  PassesNone _ = Unit {0}

  -- its new numbers are the next ones
  abbrev pub Allowed : State K → Aside K → Type 0
  Allowed w (Asked s next cs) = IsNumbered w.next cs next
  Allowed w _ = Unit {0}

  -- a runtime that is built, with nothing at work, at this state
  abbrev pub resting : State K → Machine K
  resting w =
      record {
        state = w;
        work = [];
        listeners = [];
        event = None;
        bubbles = false;
        built = true;
        unit = false;
        units = 0;
        inputs = [];
        taken = 0;
        default_enabled = true;
        dead = None;
        refused = None;
      }

  -- the state that a change leaves; where it was cut it leaves all
  abbrev pub left_of : State K → Outcome K → State K
  left_of w (Done v work) = v
  left_of w (Cut v fault) = w

module _ {K : Types} (app : Application K) where
  -- the state after it
  abbrev pub aside_state : State K → Aside K → State K
  aside_state w (Asked s next cs) = commands app (with_next w next) s None cs
  aside_state w (Marked s) = marked_now w s
  aside_state w AllMarked = all_marked_now w.scopes w
  aside_state w Looked = look w
  aside_state w Thinned = drops w.queued w
  aside_state w Rested = at_rest w
  aside_state w (Raised name payload element bubbles prevented) = w
  aside_state w Passed = rendering_rest w
  aside_state w Polling = polling_rest w
  aside_state w Answered = nothing_resolved w
  aside_state w (Advanced t) = left_of w (polled_now app w t)

  -- the machine after it: nothing of an earlier call is left but the state
  abbrev pub set_aside : Machine K → Aside K → Machine K
  set_aside m (Raised name payload element bubbles prevented) =
      record (resting m.state) {
        listeners = heard m.state name element bubbles;
        event = Some (record { payload = payload; propagates = bubbles; prevented = prevented });
        bubbles = bubbles;
      }
  set_aside m a = resting (aside_state m.state a)
