-- What an item of open work names is there.
use Rattle.std.specs.Prelude.{ℕ, true, Some, ◌≡◌}
use Rattle.rt_model.specs.Tree.{Types}
use Rattle.rt_model.specs.State.{State, Item, Draw, Row, Feed, Make, Drop, is_live}
use Rattle.rt_model.specs.Replay.{fed_child}

module _ {K : Types} where
  -- the scope that an item is of is live, and so is the child that it feeds or drops
  abbrev pub Named : State K → Item K → Type 0
  Named w (Draw s side p k) = is_live w s ≡ true
  Named w (Row b step) = is_live w b ≡ true
  Named w (Feed s side p c) = (is_live w s ≡ true) × ((t : ℕ) × (fed_child w s side p ≡ Some t) × (is_live w t ≡ true))
  Named w (Make s side p c) = is_live w s ≡ true
  Named w (Drop t s side) = (is_live w s ≡ true) × (is_live w t ≡ true)
