-- What holds at each machine that moves reach from a replay's start, and calls that log no entry between them.
use Rattle.std.specs.Prelude.{ℕ, ◌<◌, List, [], ◌∷◌, None, ◌≡◌}
use Rattle.rt_model.specs.Tree.{Types, Root}
use Rattle.rt_model.specs.World.{Firsts, Application}
use Rattle.rt_model.specs.Laws.{IsLawful}
use Rattle.rt_model.specs.State.{MainSide, Scope, new_scope}
use Rattle.rt_model.specs.Replay.{Input, Machine, start_from}
use Rattle.rt_model.specs.Causes.{Limits}
use Rattle.law_moves.specs.Moves.{Move, Leads}
use Rattle.law_moves.specs.Removals.{Wooded}
use Rattle.rt_model.specs.Asides.{Aside, PassesNone}
use Rattle.law_moves.specs.Asides.{IsAside}

-- a part of a program's way with a runtime
pub data Part (K : Types) : Type 0 where
  ByMoves : (moves : List Move) → Part K
  ByAside : (aside : Aside K) → Part K

module _ {K : Types} where
  -- no scope was passed over
  abbrev pub NonePassed : List (Part K) → Type 0
  NonePassed [] = Unit {0}
  NonePassed (ByMoves moves ∷ parts) = NonePassed parts
  NonePassed (ByAside a ∷ parts) = PassesNone a × NonePassed parts

module _ {K : Types} (app : Application K) where
  -- the parts lead from a machine to another, one after another
  abbrev pub Comes : Limits → Machine K → List (Part K) → Machine K → Type 0
  Comes limits m [] v = v ≡ m
  Comes limits m (ByMoves moves ∷ parts) v = (u : Machine K) × Leads app limits m moves u × Comes limits u parts v
  Comes limits m (ByAside a ∷ parts) v = (u : Machine K) × IsAside app m a u × Comes limits u parts v

  -- scope 0 before its first run, with what it provides by kind
  abbrev pub first_scope : K.Props → List (ℕ × K.Value) → Scope K
  first_scope props contexts = record (new_scope (Root app.root props) None 0 MainSide) { contexts = contexts }

  -- a replay at its start, whose numbers begin at these, and whose root provides these values
  abbrev pub start_at : K.Props → Firsts → List (ℕ × K.Value) → List (Input K) → Machine K
  start_at props firsts contexts inputs =
      let m = start_from app props firsts inputs in
      record m { state = record (m.state) { scopes = (0, first_scope props contexts) ∷ [] } }

  -- they lead to a machine from the start of a replay, whatever its root provides and wherever its numbers begin; elements have none below 1
  pub record Reached (limits : Limits) (props : K.Props) (inputs : List (Input K)) (m : Machine K) : Type 0 where
    pub firsts : Firsts
    pub above : 0 < firsts.elements
    pub contexts : List (ℕ × K.Value)
    pub parts : List (Part K)
    pub comes : Comes limits (start_at props firsts contexts inputs) parts m

  -- of a lawful application the children of each scope stand one level below it, each once, until a fault ends the run
  abbrev pub ReachedAreWooded : Type 0
  ReachedAreWooded =
      IsLawful K app
      → (limits : Limits) (props : K.Props) (inputs : List (Input K)) (m : Machine K)
      → Reached limits props inputs m
      → m.dead ≡ None
      → Wooded m.state
