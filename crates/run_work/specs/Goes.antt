-- Where the nodes that a side knows go, as far as two trees were walked through.
use Rattle.std.specs.Prelude.{ℕ, List, Option, Some, None, get_or, slice_get, ◌≡◌}
use Rattle.rt_model.specs.Tree.{Place, Kind}

-- a node that goes to an index is the one that stands there
pub record NodesGo (olds news : List (Place × Kind)) (to : List (Option ℕ)) : Type 0 where
  pub stands : (i j : ℕ) → get_or to i None ≡ Some j → (q : Place × Kind) × (slice_get olds i ≡ Some q) × (slice_get news j ≡ Some q)
