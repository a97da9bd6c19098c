-- What a mark leads to: work that is opened, a child scope that is dropped, a number that goes.
use Rattle.std.specs.Prelude.{ℕ, List, [], ◌∷◌}
use Rattle.rt_model.specs.Tree.{Types, Place, Kind}
use Rattle.rt_model.specs.State.{SideName, Item, Draw, Feed, Make}
use Rattle.rt_model.specs.Run.{child_at, drop_at}
use Rattle.rt_model.specs.Heard.{number_at}
use Rattle.tree_marks.specs.Marks.{Mark, stays, goes, comes, fed, left, made, given, worded, slot_goes, tree_goes, slot_way, tree_way, come_in, go_out, lone}

module _ {K : Types} where
  -- the work that a mark opens on a side of a scope
  abbrev pub work_at : ℕ → SideName → Mark K → List (Item K)
  work_at scope side (stays p k) = []
  work_at scope side (goes p k) = []
  work_at scope side (comes p k) = Draw scope side p k ∷ []
  work_at scope side (fed p c d) = Feed scope side p d ∷ []
  work_at scope side (left p c) = []
  work_at scope side (made p d) = Make scope side p d ∷ []
  work_at scope side (given above whole new old) = []
  work_at scope side (worded p new old) = []
  work_at scope side (slot_goes p old) = []
  work_at scope side (tree_goes above old) = []
  work_at scope side (slot_way p new old) = []
  work_at scope side (tree_way above new old) = []
  work_at scope side (come_in p front i new) = []
  work_at scope side (go_out p i old) = []
  work_at scope side (lone p new) = []

  -- the child scope that is dropped there, of those that the side has
  abbrev pub dropped_at : ℕ → SideName → List (Place × ℕ) → Mark K → List (Item K)
  dropped_at scope side children (stays p k) = []
  dropped_at scope side children (goes p k) = []
  dropped_at scope side children (comes p k) = []
  dropped_at scope side children (fed p c d) = []
  dropped_at scope side children (left p c) = drop_at scope side (child_at children p)
  dropped_at scope side children (made p d) = []
  dropped_at scope side children (given above whole new old) = []
  dropped_at scope side children (worded p new old) = []
  dropped_at scope side children (slot_goes p old) = []
  dropped_at scope side children (tree_goes above old) = []
  dropped_at scope side children (slot_way p new old) = []
  dropped_at scope side children (tree_way above new old) = []
  dropped_at scope side children (come_in p front i new) = []
  dropped_at scope side children (go_out p i old) = []
  dropped_at scope side children (lone p new) = []

  -- the number that goes there, of those that the side has
  abbrev pub gone_at : List (Place × Kind × ℕ) → Mark K → List ℕ
  gone_at numbers (stays p k) = []
  gone_at numbers (goes p k) = number_at numbers p k ∷ []
  gone_at numbers (comes p k) = []
  gone_at numbers (fed p c d) = []
  gone_at numbers (left p c) = []
  gone_at numbers (made p d) = []
  gone_at numbers (given above whole new old) = []
  gone_at numbers (worded p new old) = []
  gone_at numbers (slot_goes p old) = []
  gone_at numbers (tree_goes above old) = []
  gone_at numbers (slot_way p new old) = []
  gone_at numbers (tree_way above new old) = []
  gone_at numbers (come_in p front i new) = []
  gone_at numbers (go_out p i old) = []
  gone_at numbers (lone p new) = []
