-- The child that an item feeds, and the scopes of which that may change what shows.
use Rattle.std.specs.Prelude.{ℕ, Bool, List, [], ◌∷◌, Option, None, Some, option_map}
use Rattle.rt_model.specs.Tree.{Types, VComponent}
use Rattle.rt_model.specs.World.{Application}
use Rattle.rt_model.specs.State.{State, Item, Draw, Row, Feed, Make, Drop}
use Rattle.rt_model.specs.Replay.{fed_child, keeps}
use Rattle.run_standing.specs.Changes.{unless}

-- the scopes of which a feed may change what shows
abbrev pub fed_changes : Option (ℕ × Bool) → List ℕ
fed_changes None = []
fed_changes (Some fed) = unless fed.1 fed.0

-- the scope of which a removal may change what shows
abbrev pub leaf_changes : Option ℕ → List ℕ
leaf_changes None = []
leaf_changes (Some leaf) = leaf ∷ []

module _ {K : Types} (app : Application K) (w : State K) where
  -- a child that is fed a component, and whether it keeps its output
  abbrev pub child_fed : VComponent K → Option ℕ → Option (ℕ × Bool)
  child_fed c child = option_map (λ (t : ℕ). (t, keeps app w t c)) child

  -- the child that an item feeds; none where it is an item of another kind
  abbrev pub feeds : Item K → Option (ℕ × Bool)
  feeds (Draw s side p k) = None
  feeds (Row b step) = None
  feeds (Feed s side p c) = child_fed c (fed_child w s side p)
  feeds (Make s side p c) = None
  feeds (Drop t s side) = None
