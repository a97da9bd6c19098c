-- What becomes of places, by the marks of two trees.
use Rattle.std.specs.Prelude.{List, [], ◌∷◌, map}
use Rattle.rt_model.specs.Lists.{joined}
use Rattle.rt_model.specs.Tree.{Types}
use Rattle.run_work.specs.Events as event
use Rattle.run_work.specs.Events.{Event}
use Rattle.tree_marks.specs.Marks.{Mark, stays, goes, comes, fed, left, made, given, worded, slot_goes, tree_goes, slot_way, tree_way, come_in, go_out, lone}

module _ {K : Types} where
  -- what becomes of the place of a mark; nothing where something is written
  abbrev pub event_at : Mark K → List (Event K)
  event_at (stays p k) = event.stays p k ∷ []
  event_at (goes p k) = event.goes p k ∷ []
  event_at (comes p k) = event.comes p k ∷ []
  event_at (fed p c d) = event.fed p c d ∷ []
  event_at (left p c) = event.left p c ∷ []
  event_at (made p d) = event.made p d ∷ []
  event_at (given above whole new old) = []
  event_at (worded p new old) = []
  event_at (slot_goes p old) = []
  event_at (tree_goes above old) = []
  event_at (slot_way p new old) = []
  event_at (tree_way above new old) = []
  event_at (come_in p front i new) = []
  event_at (go_out p i old) = []
  event_at (lone p new) = []

  -- what becomes of places, one mark after another
  abbrev pub events_in : List (Mark K) → List (Event K)
  events_in marks = joined (map event_at marks)
