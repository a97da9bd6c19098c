-- What the plan of a patch is, and what the new block has from the start.
use Rattle.std.specs.Prelude.{List, [], map, Option, None, Some, ◌≡◌}
use Rattle.rt_model.specs.Laws.{Tests}
use Rattle.rt_model.specs.OneLog.{types}
use Rattle.rt_model.specs.Run.{kept_children, kept_numbers, spots_of}
use Rattle.rt_model.specs.Tree.{spots}
use Rattle.rt_model.specs.World.{Application}
use Rattle.tree_nodes.specs.declared.vnode.VNode.{VNode}
use Rattle.tree_marks.specs.Marks.{come, tree_marks}
use Rattle.tree_mirror.specs.Sealed.{tree_of}
use Rattle.run_places.specs.declared.side.Side.{Side}
use Rattle.run_places.specs.Places.{side_of}
use Rattle.run_met.specs.declared.met.Met.{Met}
use Rattle.run_met.specs.Mets.{marks_of}

module _ {P C Q V H T E L : Type 0} where
  -- the marks of an old tree and a new one, whatever the application; of a first tree all of it comes
  abbrev pub PlansOver : Option (VNode P C Q V H T E L) → VNode P C Q V H T E L → List (Met P C Q V H T E L) → Type 0
  PlansOver None tree plan = marks_of plan ≡ map come (spots [] (tree_of tree))
  PlansOver (Some old) tree plan =
      (app : Application (types C Q V H T E L)) → Tests C app.same_component → marks_of plan
      ≡ tree_marks app [] (tree_of tree) (tree_of old)

  -- a new side has the numbers of the places that the old one had, and the child scopes that are fed
  pub record KeepsBy (app : Application (types C Q V H T E L)) (old : Side P C Q V H T E L) (tree : VNode P C Q V H T E L)
      (new : Side P C Q V H T E L) : Type 0 where
    pub numbers : (side_of new).numbers ≡ kept_numbers (spots [] (tree_of tree)) (side_of old).numbers
    pub children : (side_of new).children
        ≡ kept_children app (spots_of (side_of old).output) (spots [] (tree_of tree)) (side_of old).children

  -- the same whatever the application
  abbrev pub KeepsOf : Side P C Q V H T E L → VNode P C Q V H T E L → Side P C Q V H T E L → Type 0
  KeepsOf old tree new = (app : Application (types C Q V H T E L)) → Tests C app.same_component → KeepsBy app old tree new
