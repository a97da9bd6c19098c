-- Nodes of a side that are those of its tree and of a new one.
use Rattle.std.specs.Prelude.{List, [], map, ◌≡◌}
use Rattle.tree_nodes.specs.declared.vnode.VNode.{VNode}
use Rattle.rt_model.specs.Tree.{Types, Place, Kind, Spot, node_at, spots}
use Rattle.rt_model.specs.Run.{spots_of}
use Rattle.tree_mirror.specs.Sealed.{tree_of}
use Rattle.run_places.specs.declared.side.Side.{Side}
use Rattle.run_places.specs.Places.{node_of, side_of}

module _ {K : Types} where
  -- nodes as what stands at their places
  abbrev pub standing : List (Place × Kind) → List (Spot K)
  standing nodes = map (λ (q : Place × Kind). node_at q.0 q.1) nodes

module _ {P C Q V H T E L : Type 0} where
  -- the nodes of a side are those of its tree and of a new one, in which no component stands, and no child stands on it
  pub record AllStay (side : Side P C Q V H T E L) (tree : VNode P C Q V H T E L) : Type 0 where
    pub before : spots_of (side_of side).output ≡ standing (map node_of side.nodes)
    pub after : spots [] (tree_of tree) ≡ standing (map node_of side.nodes)
    pub childless : side.children ≡ []
