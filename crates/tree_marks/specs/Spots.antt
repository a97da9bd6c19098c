-- Which spots of the new tree a mark brings, and which ones it reads.
use Rattle.std.specs.Prelude.{ℕ, ◌+◌, List, [], ◌∷◌, ◌++◌, map}
use Rattle.rt_model.specs.Lists.{joined}
use Rattle.rt_model.specs.Tree.{Types, Tree, item, Place, Spot, node_at, component_at, spots, slot_spots, item_spots}
use Rattle.tree_marks.specs.Marks.{Mark, stays, goes, comes, fed, left, made, given, worded, slot_goes, tree_goes, slot_way, tree_way, come_in, go_out, lone}

module _ {K : Types} where
  -- the spot of the new tree that is met there
  abbrev pub brings : Mark K → List (Spot K)
  brings (stays p k) = node_at p k ∷ []
  brings (goes p k) = []
  brings (comes p k) = node_at p k ∷ []
  brings (fed p c d) = component_at p d ∷ []
  brings (left p c) = []
  brings (made p d) = component_at p d ∷ []
  brings (given above whole new old) = []
  brings (worded p new old) = []
  brings (slot_goes p old) = []
  brings (tree_goes above old) = []
  brings (slot_way p new old) = []
  brings (tree_way above new old) = []
  brings (come_in p front i new) = []
  brings (go_out p i old) = []
  brings (lone p new) = []

  -- the spots that are met, one mark after another
  abbrev pub all_brought : List (Mark K) → List (Spot K)
  all_brought marks = joined (map brings marks)

  -- the spots of items from a position on
  abbrev pub front_spots : Place → ℕ → List (Tree K) → List (Spot K)
  front_spots place j [] = []
  front_spots place j (y ∷ ys) = spots (place ++ item j ∷ []) y ++ front_spots place (j + 1) ys

  -- the spots of the new tree that are looked at where the mark is written
  abbrev pub reads : Mark K → List (Spot K)
  reads (stays p k) = []
  reads (goes p k) = []
  reads (comes p k) = []
  reads (fed p c d) = []
  reads (left p c) = []
  reads (made p d) = []
  reads (given above whole new old) = []
  reads (worded p new old) = []
  reads (slot_goes p old) = []
  reads (tree_goes above old) = []
  reads (slot_way p new old) = slot_spots new p
  reads (tree_way above new old) = spots above new
  reads (come_in p front i new) = front_spots p 0 front ++ item_spots i p new
  reads (go_out p i old) = []
  reads (lone p new) = slot_spots new p
