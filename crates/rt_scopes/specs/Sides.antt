-- The sides of scopes, as the model has them.
use Rattle.std.specs.Prelude.{ℕ, List, [], ◌∷◌, ◌++◌, Some, None}
use Rattle.rt_model.specs.Tree as tree
use Rattle.rt_model.specs.OneLog.{types}
use Rattle.rt_model.specs.State as state
use Rattle.rt_model.specs.Lists.{at}
use Rattle.rt_model.specs.Boundary.{children_among, side_scopes}
use Rattle.run_places.specs.declared.side.Side.{Side}
use Rattle.run_places.specs.declared.spot.Spot.{Spot}
use Rattle.run_places.specs.Places.{side_of, spot_of}

module _ {K : tree.Types} where
  -- the scopes on the fallback's side of a live boundary
  abbrev pub fallback_scopes_in : state.State K → ℕ → List ℕ
  fallback_scopes_in w b = elim (at w.scopes b) [ None ↦ [] | Some x ↦ side_scopes w x.fallback_side ]

module _ {P C Q V H T E L : Type 0} where
  -- the live child scope at a spot, if there is one
  unfoldable pub child_here : state.State (types C Q V H T E L) → Side P C Q V H T E L → Spot P C Q V H T E L → List ℕ
  child_here w side spot = children_among w (side_of side).children (spot_of spot ∷ [])

  -- the live child scopes at these spots
  abbrev pub children_at : state.State (types C Q V H T E L) → Side P C Q V H T E L → List (Spot P C Q V H T E L) → List ℕ
  children_at w side [] = []
  children_at w side (spot ∷ spots) = child_here w side spot ++ children_at w side spots
