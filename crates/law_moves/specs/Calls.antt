-- The contracts of a runtime's calls that serve open work: an item with all that it leads to, and a removal.
use Rattle.std.specs.Prelude.{ℕ, true, List, [], ◌∷◌, ◌++◌, Some, ◌≡◌}
use Rattle.rt_model.specs.Tree.{Types}
use Rattle.rt_model.specs.World.{Application}
use Rattle.rt_model.specs.State.{SideName, State, Item, Draw, Row, Feed, Make, Drop, is_live}
use Rattle.rt_model.specs.Replay.{Entry, Machine, fed_child}
use Rattle.rt_model.specs.Causes.{Limits}
use Rattle.law_moves.specs.Moves.{AtWork}
use Rattle.law_moves.specs.Words.{Word, Serves, Says}
use Rattle.law_moves.specs.Removals.{IsWay, Wooded, Pruned, Removing}

module _ {K : Types} where
  -- what an item names is there; a drop is served by a removal
  abbrev pub IsReady : State K → Item K → Type 0
  IsReady w (Draw s side p k) = Unit {0}
  IsReady w (Row b step) = Unit {0}
  IsReady w (Feed s side p c) = (t : ℕ) × (fed_child w s side p ≡ Some t) × (is_live w t ≡ true)
  IsReady w (Make s side p c) = is_live w s ≡ true
  IsReady w (Drop t s side) = ⊥

  -- the work after a scope at the end of a way went: the drop goes with the scope that it names, and stays until then
  abbrev pub left_of : List ℕ → Item K → List (Item K) → List (Item K)
  left_of [] item rest = rest
  left_of (child ∷ path) item rest = item ∷ rest

module _ {K : Types} (app : Application K) (limits : Limits) where
  -- in the midst of a removal: some children of the scope are gone, these are left, and the drop is still the first item
  abbrev pub RemovesOn :
      Machine K → List ℕ → ℕ → Item K → List (Item K) → ℕ → List ℕ → List Entry → List Entry → (State K → Type 0) → Type 0
  RemovesOn m path top item rest scope left before after stands =
      Serves app limits m (item ∷ rest) before after (λ w. stands w × Removing m.state path top scope left w)

-- D is the runtime: which states it stands for, which log it has written, and what is promised of a machine that was refused
module _ {K : Types} {D : Type 0} (app : Application K) (limits : Limits)
    (stands : D → State K → Type 0) (log : D → List Entry) (stops : D → Machine K → Type 0) where
  -- a call that serves these items, wherever they come first at a machine that is at work
  abbrev pub ServesWork : List (Item K) → D → D → Word → Type 0
  ServesWork items old new word =
      (m : Machine K) (rest : List (Item K))
      → AtWork m
      → m.work ≡ items ++ rest
      → stands old m.state
      → Says app limits m rest (log old) (log new) (λ w. stands new w) (λ u. stops new u) word

  -- a call that removes a scope with all below it, wherever a drop comes first whose way down leads to that scope
  abbrev pub Removes : ℕ → D → D → Word → Type 0
  Removes scope old new word =
      (m : Machine K) (path : List ℕ) (top parent : ℕ) (side : SideName) (rest : List (Item K))
      → AtWork m
      → m.work ≡ Drop top parent side ∷ rest
      → IsWay m.state path top scope
      → is_live m.state scope ≡ true
      → Wooded m.state
      → stands old m.state
      → Says
      app
      limits
      m
      (left_of path (Drop top parent side) rest)
      (log old)
      (log new)
      (λ w. stands new w × Pruned m.state w scope)
      (λ u. stops new u)
      word
