-- What a call of a runtime that serves open work says: which moves it made, and how it ended.
use Rattle.std.specs.Prelude.{List, ◌++◌, Some, ◌≡◌}
use Rattle.rt_model.specs.Tree.{Types}
use Rattle.rt_model.specs.World.{Application}
use Rattle.rt_model.specs.State.{Fault, State, Item, Outcome, Done, Cut}
use Rattle.rt_model.specs.Replay.{Entry, Machine}
use Rattle.rt_model.specs.Causes.{Limits, refusal}
use Rattle.law_moves.specs.Moves.{Move, entries, Inside, busy, IsSettled, Leads}

-- how a call ended: its work is served, a fault of the run stopped it, or it gave up for want of memory or at the sink
pub data Word : Type 0 where
  Served : Word
  Stopped : (fault : Fault) → Word
  Short : Word

module _ {K : Types} where
  -- a single change does what its definition says: done where that is done, stopped where that is cut; giving up is free
  abbrev pub Does : Outcome K → (State K → List (Item K) → Type 0) → Word → Type 0
  Does outcome done Served = (w : State K) × (work : List (Item K)) × (outcome ≡ Done w work) × done w work
  Does outcome done (Stopped fault) = (w : State K) × (outcome ≡ Cut w fault)
  Does outcome done Short = Unit {0}

module _ {K : Types} (app : Application K) (limits : Limits) where
  -- moves that only serve work lead from one machine to another, and the log grew by their entries
  pub record Goes (from : Machine K) (before after : List Entry) (to : Machine K) : Type 0 where
    pub moves : List Move
    pub leads : Leads app limits from moves to
    pub inside : Inside moves
    pub logged : after ≡ before ++ entries moves

  -- the work in front of the rest is served, and what is to hold holds of the state
  pub record Serves (from : Machine K) (rest : List (Item K)) (before after : List Entry) (ends : State K → Type 0) : Type 0 where
    pub state : State K
    pub goes : Goes from before after (busy from state rest)
    pub ended : ends state

  -- a refusal came, and what is to hold holds of the machine that was refused
  pub record Stops (from : Machine K) (before after : List Entry) (stops : Machine K → Type 0) (fault : Fault) : Type 0 where
    pub machine : Machine K
    pub goes : Goes from before after machine
    pub settled : IsSettled machine
    pub cause : refusal limits machine ≡ Some fault
    pub stopped : stops machine

  -- some moves were made, and the log grew by their entries
  pub record Breaks (from : Machine K) (before after : List Entry) : Type 0 where
    pub machine : Machine K
    pub goes : Goes from before after machine

  -- the word on a call that has the work in front of the rest to serve
  abbrev pub Says : Machine K → List (Item K) → List Entry → List Entry → (State K → Type 0) → (Machine K → Type 0) → Word → Type 0
  Says from rest before after ends stops Served = Serves from rest before after ends
  Says from rest before after ends stops (Stopped fault) = Stops from before after stops fault
  Says from rest before after ends stops Short = Breaks from before after

  -- the word on a call that serves one item up to the work that it leads to
  abbrev pub Enters :
      Machine K → List (Item K) → List Entry → List Entry → (State K → List (Item K) → Type 0) → (Machine K → Type 0) → Word → Type 0
  Enters from rest before after done stops Served =
      (w : State K) × (work : List (Item K)) × Goes from before after (busy from w (work ++ rest)) × done w work
  Enters from rest before after done stops (Stopped fault) = Stops from before after stops fault
  Enters from rest before after done stops Short = Breaks from before after
