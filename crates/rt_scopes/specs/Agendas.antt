-- The agenda of a new tree on a side, as the model has it.
use Rattle.std.specs.Prelude.{◌≡◌, ℕ, List, [], ◌++◌, Some}
use Rattle.tree_nodes.specs.declared.vnode.VNode.{VNode}
use Rattle.rt_model.specs.OneLog.{types}
use Rattle.rt_model.specs.World.{Application}
use Rattle.rt_model.specs.Laws.{Tests}
use Rattle.rt_model.specs.Tree.{spots}
use Rattle.rt_model.specs.Run.{spots_of, serves, drops_of, kept_numbers, kept_children}
use Rattle.tree_mirror.specs.Sealed.{tree_of}
use Rattle.run_places.specs.declared.side.Side.{Side}
use Rattle.run_places.specs.declared.side.SideName.{SideName}
use Rattle.run_places.specs.Places.{side_name_of, side_of}
use Rattle.run_work.specs.declared.item.Item.{Item}
use Rattle.run_work.specs.Items.{work_of}

module _ {P C Q V H T E L : Type 0} where
  -- a side with another output: what it keeps, and the work that this leads to
  pub record PatchesBy (app : Application (types C Q V H T E L)) (scope : ℕ) (name : SideName) (tree : VNode P C Q V H T E L)
      (was : Side P C Q V H T E L) (work : List (Item P C Q V H T E L)) (side : Side P C Q V H T E L) : Type 0 where
    pub work_is :
        work_of work
        ≡
        serves app scope (side_name_of name) (spots_of (side_of was).output) (spots [] (tree_of tree))
        ++
        drops_of app scope (side_name_of name) (spots [] (tree_of tree)) (side_of was).children (spots_of (side_of was).output)
    pub side_is :
        side_of side
        ≡
        record {
          output = Some (tree_of tree);
          numbers = kept_numbers (spots [] (tree_of tree)) (side_of was).numbers;
          children = kept_children app (spots_of (side_of was).output) (spots [] (tree_of tree)) (side_of was).children;
        }

  -- the same whatever the application
  abbrev pub Patches : ℕ → SideName → VNode P C Q V H T E L → Side P C Q V H T E L → List (Item P C Q V H T E L) → Side P C Q V H T E L
      → Type 0
  Patches scope name tree was work side =
      (app : Application (types C Q V H T E L)) → Tests C app.same_component → PatchesBy app scope name tree was work side
