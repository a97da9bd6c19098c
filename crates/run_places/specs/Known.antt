-- A side knows the nodes and the components of its tree.
use Rattle.std.specs.Prelude.{Bool, true, false, ◌&&◌, List, [], ◌∷◌, map, Option, None, Some, ◌≡◌}
use Rattle.tree_nodes.specs.declared.vnode.VNode.{VNode}
use Rattle.rt_model.specs.OneLog.{types}
use Rattle.rt_model.specs.World.{Application}
use Rattle.rt_model.specs.Laws.{Tests}
use Rattle.rt_model.specs.Tree.{Kind, Place, Spot, same_kind, same_place, spots}
use Rattle.tree_mirror.specs.Sealed.{tree_of}
use Rattle.run_places.specs.declared.nodes.NodeAt.{NodeAt}
use Rattle.run_places.specs.declared.place.Step.{Step}
use Rattle.run_places.specs.Drawn.{nodes_in, seats_in}
use Rattle.run_places.specs.Steps.{node_of, place_of}

-- these nodes are those, one by one
abbrev pub same_nodes : List (Place × Kind) → List (Place × Kind) → Bool
same_nodes [] [] = true
same_nodes (x ∷ xs) (y ∷ ys) = (same_kind x.1 y.1 && same_place x.0 y.0) && same_nodes xs ys
same_nodes _ _ = false

-- these places are those
abbrev pub same_places : List Place → List Place → Bool
same_places [] [] = true
same_places (x ∷ xs) (y ∷ ys) = same_place x y && same_places xs ys
same_places _ _ = false

module _ {P C Q V H T E L : Type 0} where
  -- what stands in a kept tree, nothing where there is none
  abbrev pub spots_kept : Option (VNode P C Q V H T E L) → List (Spot (types C Q V H T E L))
  spots_kept None = []
  spots_kept (Some tree) = spots [] (tree_of tree)

  -- nodes and places of components are those of a kept tree
  unfoldable pub knows : Option (VNode P C Q V H T E L) → List NodeAt → List (List Step) → Bool
  knows output nodes seats =
      same_nodes (map node_of nodes) (nodes_in (spots_kept output)) && same_places (map place_of seats) (seats_in (spots_kept output))

  -- the same by every application that tells its components apart
  abbrev pub KnowsTree : Option (VNode P C Q V H T E L) → List NodeAt → List (List Step) → Type 0
  KnowsTree output nodes seats = (app : Application (types C Q V H T E L)) → Tests C app.same_component → knows output nodes seats ≡ true
