-- What the open work names is there, wherever moves lead.
use Rattle.std.specs.Prelude.{true, false, List, ◌∷◌, Some, None, ◌≡◌}
use Rattle.rt_model.specs.Tree.{Types}
use Rattle.rt_model.specs.World.{Application}
use Rattle.rt_model.specs.Laws.{IsLawful}
use Rattle.rt_model.specs.State.{Item}
use Rattle.rt_model.specs.Replay.{Entry, Input, Machine, due}
use Rattle.rt_model.specs.Causes.{Limits}
use Rattle.law_moves.specs.Moves.{serves_item, is_silent}
use Rattle.law_moves.specs.Reached.{Reached}
use Rattle.law_moves.specs.Named.{Named}

module _ {K : Types} (app : Application K) where
  -- of a lawful application what the first item names is there, until a fault ends the run
  abbrev pub ReachedAreNamed : Type 0
  ReachedAreNamed =
      IsLawful K app
      → (limits : Limits) (props : K.Props) (inputs : List (Input K)) (m : Machine K) (item : Item K) (rest : List (Item K))
      → Reached app limits props inputs m
      → m.dead ≡ None
      → m.work ≡ item ∷ rest
      → Named m.state item

  -- of a lawful application open work can be served: where its first item wants an entry, one is due, until a fault ends the run
  abbrev pub DueIsServed : Type 0
  DueIsServed =
      IsLawful K app
      → (limits : Limits) (props : K.Props) (inputs : List (Input K)) (m : Machine K) (item : Item K) (rest : List (Item K))
      → Reached app limits props inputs m
      → m.dead ≡ None
      → m.work ≡ item ∷ rest
      → is_silent item ≡ false
      → (e : Entry) × (due app m ≡ Some e) × (serves_item e ≡ true)
