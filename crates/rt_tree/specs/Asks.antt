-- Which scope a patch asks for its nodes at a mark.
use Rattle.std.specs.Prelude.{ℕ, true, List, [], ◌∷◌, Option, None, ◌≡◌}
use Rattle.rt_model.specs.OneLog.{types}
use Rattle.tree_marks.specs.Marks.{Mark, stays, goes, comes, fed, left, made, given, worded, slot_goes, tree_goes, slot_way, tree_way, come_in, go_out, lone}
use Rattle.tree_mirror.specs.Mirror.{trees_from}
use Rattle.run_places.specs.declared.side.Side.{Side}
use Rattle.run_places.specs.Places.{side_of}
use Rattle.run_shown.specs.declared.asked.GivenRows.{GivenRows}
use Rattle.run_shown.specs.Pieces.{items_tops, slot_tops, tree_tops}
use Rattle.run_shown.specs.Unknowns.{first_in, last_in}
use Rattle.rt_tree.specs.declared.patch.Patch.{Patch}

module _ {P C Q V H T E L : Type 0} where
  -- the first scope that goes for which nothing was given, or the last behind which more comes in
  abbrev pub asked_by : Side P C Q V H T E L → Side P C Q V H T E L → GivenRows → Mark (types C Q V H T E L) → Option ℕ
  asked_by old new rows (stays p k) = None
  asked_by old new rows (goes p k) = None
  asked_by old new rows (comes p k) = None
  asked_by old new rows (fed p c d) = None
  asked_by old new rows (left p c) = None
  asked_by old new rows (made p d) = None
  asked_by old new rows (given above whole news olds) = None
  asked_by old new rows (worded p news olds) = None
  asked_by old new rows (slot_goes p was) = first_in rows (slot_tops (side_of old) was p)
  asked_by old new rows (tree_goes above was) = first_in rows (tree_tops (side_of old) above was)
  asked_by old new rows (slot_way p next was) = first_in rows (slot_tops (side_of old) was p)
  asked_by old new rows (tree_way above next was) = first_in rows (tree_tops (side_of old) above was)
  asked_by old new rows (come_in p front i next) = last_in rows (items_tops (side_of new) 0 p (trees_from front))
  asked_by old new rows (go_out p i was) = first_in rows (items_tops (side_of old) i p was)
  asked_by old new rows (lone p next) = None

  -- by what a patch has
  abbrev pub asked_at : Patch P C Q V H T E L → Mark (types C Q V H T E L) → Option ℕ
  asked_at p m = asked_by p.old p.new.side p.given m

  -- none has to be asked there, where the block is shown
  abbrev pub IsKnown : Patch P C Q V H T E L → Mark (types C Q V H T E L) → Type 0
  IsKnown p m = p.shown ≡ true → asked_at p m ≡ None

  -- nor at any of these marks
  abbrev pub AllKnown : Patch P C Q V H T E L → List (Mark (types C Q V H T E L)) → Type 0
  AllKnown p [] = Unit {0}
  AllKnown p (m ∷ ms) = IsKnown p m × AllKnown p ms
