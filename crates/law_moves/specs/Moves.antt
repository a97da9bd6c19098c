-- Fine moves of the machine: one item of the open work at a time, with an entry or without one.
use Rattle.std.specs.Prelude.{Bool, true, false, List, [], ◌∷◌, Option, Some, None, ◌≡◌}
use Rattle.rt_model.specs.Tree.{Types}
use Rattle.rt_model.specs.World.{Application}
use Rattle.rt_model.specs.State.{Fault, State, Item, Draw, Row, Feed, Make, Drop}
use Rattle.rt_model.specs.Replay.{Entry, Made, Fed, Kept, Removed, Machine, ended_by, mounted_state, due, outcome_of, change_by}
use Rattle.rt_model.specs.Causes.{Limits, refusal}

-- what a machine does next: it serves an item that needs no entry, it ends the build or a unit, or it accepts an entry
pub data Move : Type 0 where
  Silent : Move
  Closed : Move
  Logged : (entry : Entry) → Move

-- the entries that moves leave in a log
abbrev pub entries : List Move → List Entry
entries [] = []
entries (Silent ∷ moves) = entries moves
entries (Closed ∷ moves) = entries moves
entries (Logged e ∷ moves) = e ∷ entries moves

-- the entries in which an item of the open work is served
abbrev pub serves_item : Entry → Bool
serves_item (Made s) = true
serves_item (Fed s) = true
serves_item (Kept s) = true
serves_item (Removed s) = true
serves_item _ = false

-- moves that only serve open work: the build or a unit goes on all the while, and no input is taken in
abbrev pub Inside : List Move → Type 0
Inside [] = Unit {0}
Inside (Silent ∷ moves) = Inside moves
Inside (Closed ∷ moves) = ⊥
Inside (Logged e ∷ moves) = (serves_item e ≡ true) × Inside moves

-- moves of one unit after its first entry: open work is served, and the last one alone may end the unit
abbrev pub InOneUnit : List Move → Type 0
InOneUnit [] = Unit {0}
InOneUnit (Silent ∷ moves) = InOneUnit moves
InOneUnit (Closed ∷ moves) = moves ≡ []
InOneUnit (Logged e ∷ moves) = (serves_item e ≡ true) × InOneUnit moves

module _ {K : Types} where
  -- a machine with another state and other open work; while work is served nothing else of it changes
  abbrev pub busy : Machine K → State K → List (Item K) → Machine K
  busy m w work = record m { state = w; work = work }

  -- the items that are served without an entry: numbers, and the steps of a boundary's run
  abbrev pub is_silent : Item K → Bool
  is_silent (Draw s side p k) = true
  is_silent (Row b step) = true
  is_silent (Feed s side p c) = false
  is_silent (Make s side p c) = false
  is_silent (Drop t s side) = false

  -- a move comes without an entry: the first item is silent, or none is left and the build or a unit is to end
  abbrev pub moves_alone : Option Fault → List (Item K) → Bool → Bool
  moves_alone (Some fault) work unit = false
  moves_alone None [] unit = unit
  moves_alone None (item ∷ rest) unit = is_silent item

  -- no move comes without an entry
  abbrev pub IsSettled : Machine K → Type 0
  IsSettled m = moves_alone m.dead m.work m.unit ≡ false

  -- the build or a unit is at work
  pub record AtWork (m : Machine K) : Type 0 where
    pub alive : m.dead ≡ None
    pub built : m.built ≡ true
    pub unit : m.unit ≡ true

  -- nothing is at work, and no fault ended the run
  pub record AtRest (m : Machine K) : Type 0 where
    pub alive : m.dead ≡ None
    pub idle : m.work ≡ []
    pub unit : m.unit ≡ false

  -- the build or a unit ends
  pub record IsClosed (m u : Machine K) : Type 0 where
    pub alive : m.dead ≡ None
    pub idle : m.work ≡ []
    pub at_work : m.unit ≡ true
    pub gives : u ≡ record m { unit = false; state = mounted_state m.state }

module _ {K : Types} (app : Application K) where
  -- an item that needs no entry is served
  pub record IsSilent (m u : Machine K) : Type 0 where
    pub item : Item K
    pub later : List (Item K)
    pub silent : is_silent item ≡ true
    pub alive : m.dead ≡ None
    pub next : m.work ≡ item ∷ later
    pub gives : u ≡ ended_by m (Some item) later (outcome_of app m.state item)

  -- an entry is accepted within limits
  pub record IsLogged (limits : Limits) (m : Machine K) (e : Entry) (u : Machine K) : Type 0 where
    pub settled : IsSettled m
    pub within : refusal limits m ≡ None
    pub due_is : due app m ≡ Some e
    pub gives : u ≡ change_by app m m.work e

  -- one move leads from a machine to another
  abbrev pub Moves : Limits → Machine K → Move → Machine K → Type 0
  Moves limits m Silent u = IsSilent m u
  Moves limits m Closed u = IsClosed m u
  Moves limits m (Logged e) u = IsLogged limits m e u

  -- moves lead from a machine to another, one after another
  abbrev pub Leads : Limits → Machine K → List Move → Machine K → Type 0
  Leads limits m [] v = v ≡ m
  Leads limits m (move ∷ moves) v = (u : Machine K) × Moves limits m move u × Leads limits u moves v
