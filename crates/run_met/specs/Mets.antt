-- What is met, as a mark of the definitions.
use Rattle.std.specs.Prelude.{List, map}
use Rattle.rt_model.specs.OneLog.{types}
use Rattle.tree_mirror.specs.Sealed.{component_of, slot_of, tree_of}
use Rattle.tree_marks.specs.Marks.{Mark, stays, goes, comes, fed, left, made, worded, slot_goes, tree_goes, slot_way, tree_way, lone}
use Rattle.run_places.specs.Places.{kind_of, place_of}
use Rattle.run_work.specs.Met.{items_in, items_out, template_gives}
use Rattle.run_met.specs.declared.met.Met.{Met}
use Rattle.run_met.specs.declared.met.Met.TheVariants as mets

module _ {P C Q V H T E L : Type 0} where
  -- one thing
  abbrev pub mark_of : Met P C Q V H T E L → Mark (types C Q V H T E L)
  mark_of (mets.Stays place kind) = stays (place_of place) (kind_of kind)
  mark_of (mets.Goes place kind) = goes (place_of place) (kind_of kind)
  mark_of (mets.Comes place kind) = comes (place_of place) (kind_of kind)
  mark_of (mets.Fed place was next) = fed (place_of place) (component_of was) (component_of next)
  mark_of (mets.Left place was) = left (place_of place) (component_of was)
  mark_of (mets.Made place next) = made (place_of place) (component_of next)
  mark_of (mets.Given above next was) = template_gives (place_of above) next was
  mark_of (mets.Worded place next was) = worded (place_of place) next was
  mark_of (mets.SlotGoes place was) = slot_goes (place_of place) (slot_of was)
  mark_of (mets.TreeGoes above was) = tree_goes (place_of above) (tree_of was)
  mark_of (mets.SlotWay place next was) = slot_way (place_of place) (slot_of next) (slot_of was)
  mark_of (mets.TreeWay above next was) = tree_way (place_of above) (tree_of next) (tree_of was)
  mark_of (mets.ComeIn place trees first) = items_in (place_of place) first trees
  mark_of (mets.GoOut place trees first) = items_out (place_of place) first trees
  mark_of (mets.Lone place next) = lone (place_of place) (slot_of next)

  -- all of them
  abbrev pub marks_of : List (Met P C Q V H T E L) → List (Mark (types C Q V H T E L))
  marks_of mets = map mark_of mets
