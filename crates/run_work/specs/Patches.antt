-- What a new tree on a side leads to, and what of the side is kept for it.
use Rattle.std.specs.Prelude.{ℕ, [], map, ◌≡◌}
use Rattle.tree_nodes.specs.declared.vnode.VNode.{VNode}
use Rattle.rt_model.specs.OneLog.{types}
use Rattle.rt_model.specs.World.{Application}
use Rattle.rt_model.specs.Laws.{Tests}
use Rattle.rt_model.specs.Tree.{spots}
use Rattle.rt_model.specs.Run.{spots_of, serves, drops_of, is_fed}
use Rattle.tree_mirror.specs.Sealed.{tree_of}
use Rattle.run_places.specs.declared.side.Side.{Side}
use Rattle.run_places.specs.declared.side.SideName.{SideName}
use Rattle.run_places.specs.Drawn.{NodesFollow, SeatsFollow, nodes_in, seats_in}
use Rattle.run_places.specs.Places.{node_of, place_of, side_name_of, side_of}
use Rattle.run_work.specs.declared.patched.Patched.{Patched}
use Rattle.run_work.specs.Items.{work_of}

module _ {P C Q V H T E L : Type 0} where
  -- the work is that of the definitions, and each node and component that the side knows goes where it stands
  pub record PatchesBy (app : Application (types C Q V H T E L)) (scope : ℕ) (name : SideName) (tree : VNode P C Q V H T E L)
      (was : Side P C Q V H T E L) (out : Patched P C Q V H T E L) : Type 0 where
    pub work : work_of out.work ≡ serves app scope (side_name_of name) (spots_of (side_of was).output) (spots [] (tree_of tree))
    pub drops : work_of out.drops
        ≡ drops_of app scope (side_name_of name) (spots [] (tree_of tree)) (side_of was).children (spots_of (side_of was).output)
    pub nodes : map node_of out.nodes ≡ nodes_in (spots [] (tree_of tree))
    pub seats : map place_of out.seats ≡ seats_in (spots [] (tree_of tree))
    pub nodes_to : NodesFollow (map node_of was.nodes) (spots [] (tree_of tree)) out.nodes_to
    pub seats_to : SeatsFollow (λ c d. is_fed app c d) (map place_of was.seats) (spots_of (side_of was).output) (spots [] (tree_of tree))
        out.seats_to

  -- the same whatever the application
  abbrev pub Patches : ℕ → SideName → VNode P C Q V H T E L → Side P C Q V H T E L → Patched P C Q V H T E L → Type 0
  Patches scope name tree was out =
      (app : Application (types C Q V H T E L)) → Tests C app.same_component → PatchesBy app scope name tree was out
