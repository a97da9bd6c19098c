-- Sides and spots of code as those of the model; steps, places and nodes are in Steps.
pub use Rattle.run_places.specs.Steps.{kind_of, step_of, place_of, at_path, node_of}
use Rattle.std.specs.Prelude.{ℕ, List, ◌∷◌, [], map, slice_get, Option, Some, None}
use Rattle.tree_nodes.specs.declared.vnode.VNode.{VNode}
use Rattle.rt_model.specs.OneLog.{types}
use Rattle.rt_model.specs.Tree as model
use Rattle.rt_model.specs.Tree.{Place, node_at, component_at}
use Rattle.rt_model.specs.State as state
use Rattle.tree_mirror.specs.Sealed.{tree_of, component_of}
use Rattle.run_places.specs.declared.side.SideName.{SideName}
use Rattle.run_places.specs.declared.side.SideName.TheVariants as sides
use Rattle.run_places.specs.declared.side.Side.{Side}
use Rattle.run_places.specs.declared.spot.Spot.{Spot}
use Rattle.run_places.specs.declared.spot.Spot.TheVariants as spots

-- the name of a side
abbrev pub side_name_of : SideName → state.SideName
side_name_of sides.Main = state.MainSide
side_name_of sides.Children = state.ChildrenSide
side_name_of sides.Fallback = state.FallbackSide

-- the numbers under indices of nodes, with their places; those past the end have none
abbrev pub placed : List (Place × model.Kind) → List (ℕ × ℕ) → List (Place × model.Kind × ℕ)
placed nodes [] = []
placed nodes (e ∷ es) = elim (slice_get nodes e.0) [ None ↦ placed nodes es | Some q ↦ (q.0, q.1, e.1) ∷ placed nodes es ]

-- the child scopes under indices of components, with their places; those past the end have none
abbrev pub seated : List Place → List (ℕ × ℕ) → List (Place × ℕ)
seated seats [] = []
seated seats (e ∷ es) = elim (slice_get seats e.0) [ None ↦ seated seats es | Some p ↦ (p, e.1) ∷ seated seats es ]

module _ {P C Q V H T E L : Type 0} where
  -- a kept output
  abbrev pub output_of : Option (VNode P C Q V H T E L) → Option (model.Tree (types C Q V H T E L))
  output_of None = None
  output_of (Some tree) = Some (tree_of tree)

  -- what a scope keeps of one side
  abbrev pub side_of : Side P C Q V H T E L → state.Side (types C Q V H T E L)
  side_of side =
      record {
        output = output_of side.output;
        numbers = placed (map node_of side.nodes) side.numbers;
        children = seated (map place_of side.seats) side.children;
      }

  -- what stands at a place
  abbrev pub spot_of : Spot P C Q V H T E L → model.Spot (types C Q V H T E L)
  spot_of (spots.Node place kind) = node_at (place_of place) (kind_of kind)
  spot_of (spots.Component place component) = component_at (place_of place) (component_of component)
