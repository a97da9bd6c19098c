-- A patch whose new block has what is kept of a full old one knows what stays, and has no child scope where one comes new.
use Rattle.std.specs.Prelude.{ℕ, true, [], Some, ◌≡◌}
use Rattle.tree_nodes.specs.declared.vnode.VNode.{VNode}
use Rattle.rt_model.specs.OneLog.{types}
use Rattle.rt_model.specs.Run.{child_at, component_in, has_node, spots_of}
use Rattle.rt_model.specs.State as state
use Rattle.rt_model.specs.Tree.{Types, Place, Kind, Tree, VComponent, spots}
use Rattle.rt_model.specs.World.{Application}
use Rattle.tree_marks.specs.Marks.{tree_marks}
use Rattle.tree_marks.specs.Spots.{brings}
use Rattle.tree_mirror.specs.Sealed.{tree_of}
use Rattle.run_places.specs.declared.side.Side.{Side}
use Rattle.run_places.specs.Places.{side_of}
use Rattle.law_patch.specs.Appended.{is_numbered}
use Rattle.law_patch.specs.Fresh.{all_fresh}
use Rattle.rt_tree.specs.declared.patch.Patch.{Patch}
use Rattle.rt_tree.specs.Plans.{KeepsBy}
use Rattle.law_served.specs.KnownSpots.{Each, KnownAt, StartsWith}
use Rattle.law_served.specs.RunWritten.{FreeAt}

module _ {K : Types} where
  -- a side has a number for each node of its tree, and a child scope for each component
  pub record IsFull (side : state.Side K) (tree : Tree K) : Type 0 where
    pub numbers : (p : Place) (k : Kind) → has_node (spots [] tree) p k ≡ true → is_numbered side.numbers p k ≡ true
    pub children : (p : Place) (c : VComponent K) → component_in (spots [] tree) p ≡ Some c → (t : ℕ) × (child_at side.children p ≡ Some t)

module _ (P : Type 0) {C Q V H T E L : Type 0} where
  abbrev pub KeptStarts : Application (types C Q V H T E L) → Type 0
  KeptStarts app =
      (p : Patch P C Q V H T E L) (was : Side P C Q V H T E L) (new : VNode P C Q V H T E L) (old : Tree (types C Q V H T E L))
      → spots_of (side_of was).output ≡ spots [] old
      → KeepsBy app was new p.new.side
      → IsFull (side_of was) old
      → StartsWith (λ q s. KnownAt q s) (λ m. brings m) p (tree_marks app [] (tree_of new) old)
      × Each (λ q s. FreeAt q s) p (all_fresh (tree_marks app [] (tree_of new) old))
