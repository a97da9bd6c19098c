-- Where something new comes or gives way, only what came new is read.
use Rattle.std.specs.Prelude.{List, [], ◌∷◌, ◌++◌, map}
use Rattle.rt_model.specs.Lists.{joined}
use Rattle.rt_model.specs.Tree.{Types, Tree, Place, Spot, node_at, component_at, spots, slot_spots, item_spots}
use Rattle.rt_model.specs.World.{Application}
use Rattle.tree_marks.specs.Marks.{Mark, stays, goes, comes, fed, left, made, given, worded, slot_goes, tree_goes, slot_way, tree_way, come_in, go_out, lone, tree_marks}
use Rattle.law_patch.specs.Behind.{AllKnown}

module _ {K : Types} where
  -- the spot that comes new at a mark
  abbrev pub fresh : Mark K → List (Spot K)
  fresh (stays p k) = []
  fresh (goes p k) = []
  fresh (comes p k) = node_at p k ∷ []
  fresh (fed p c d) = []
  fresh (left p c) = []
  fresh (made p d) = component_at p d ∷ []
  fresh (given above whole new old) = []
  fresh (worded p new old) = []
  fresh (slot_goes p old) = []
  fresh (tree_goes above old) = []
  fresh (slot_way p new old) = []
  fresh (tree_way above new old) = []
  fresh (come_in p front i new) = []
  fresh (go_out p i old) = []
  fresh (lone p new) = []

  -- those that come new, one mark after another
  abbrev pub all_fresh : List (Mark K) → List (Spot K)
  all_fresh marks = joined (map fresh marks)

  -- the spots of what comes there, or takes another one's place
  abbrev pub reads_fresh : Mark K → List (Spot K)
  reads_fresh (stays p k) = []
  reads_fresh (goes p k) = []
  reads_fresh (comes p k) = []
  reads_fresh (fed p c d) = []
  reads_fresh (left p c) = []
  reads_fresh (made p d) = []
  reads_fresh (given above whole new old) = []
  reads_fresh (worded p new old) = []
  reads_fresh (slot_goes p old) = []
  reads_fresh (tree_goes above old) = []
  reads_fresh (slot_way p new old) = slot_spots new p
  reads_fresh (tree_way above new old) = spots above new
  reads_fresh (come_in p front i new) = item_spots i p new
  reads_fresh (go_out p i old) = []
  reads_fresh (lone p new) = slot_spots new p

  -- each mark reads so what is known or came new in front of it
  abbrev pub FreshBehind : List (Spot K) → List (Mark K) → Type 0
  FreshBehind known [] = Unit {0}
  FreshBehind known (m ∷ marks) = AllKnown known (reads_fresh m) × FreshBehind (known ++ fresh m) marks

-- so it is along the marks of two trees, where nothing was known before
abbrev pub MarksReadFresh : {K : Types} → Application K → Type 0
MarksReadFresh {K = K} app = (above : Place) (new old : Tree K) → FreshBehind [] (tree_marks app above new old)
