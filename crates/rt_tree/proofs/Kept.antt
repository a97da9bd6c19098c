-- What is kept of an old side stands in the new one.
use Rattle.std.proofs.Common.{ℕ, List, [], true, ◌≡◌, ap, ◌∙◌, map}
use Rattle.std.specs.Prelude.{Some}
use Rattle.tree_nodes.specs.declared.vnode.VNode.{VNode}
use Rattle.rt_model.specs.OneLog.{types}
use Rattle.rt_model.specs.Run.{spots_of}
use Rattle.rt_model.specs.Tree.{Place, Kind, spots}
use Rattle.rt_model.specs.World.{Application}
use Rattle.tree_mirror.specs.Sealed.{tree_of}
use Rattle.run_places.specs.declared.nodes.NodeAt.{NodeAt}
use Rattle.run_places.specs.declared.place.Step.{Step}
use Rattle.run_places.specs.declared.side.Side.{Side}
use Rattle.run_places.specs.declared.side.SideName.{SideName}
use Rattle.run_places.specs.Drawn.{moved}
use Rattle.run_places.specs.Known.{KnowsTree, knows}
use Rattle.run_places.specs.Places.{node_of, place_of, placed, seated, side_of}
use Rattle.run_places.proofs.Knowing.{known_by}
use Rattle.run_places.proofs.Placed.{placed_moved, seated_moved}
use Rattle.run_work.specs.declared.patched.Patched.{Patched}
use Rattle.run_work.specs.Patches.{PatchesBy}
use Rattle.rt_tree.specs.Plans.{KeepsBy}

module _ {P C Q V H T E L : Type 0} (app : Application (types C Q V H T E L)) where
  pub kept_by : (scope : ℕ) (name : SideName) (tree : VNode P C Q V H T E L) (was : Side P C Q V H T E L) (out : Patched P C Q V H T E L)
      (nodes : List NodeAt) (seats : List (List Step)) (numbers children : List (ℕ × ℕ)) (known : KnowsTree (Some tree) nodes seats)
      → PatchesBy app scope name tree was out
      → nodes ≡ out.nodes
      → seats ≡ out.seats
      → numbers ≡ moved out.nodes_to was.numbers
      → children ≡ moved out.seats_to was.children
      → KeepsBy app was tree (record { output = Some tree; nodes = nodes; seats = seats; numbers = numbers; children = children; known = known })
  kept_by scope name tree was out nodes seats numbers children known found nodes_are seats_are numbers_are children_are =
      record {
        numbers =
            (λ i. placed (map node_of (nodes_are i)) (numbers_are i))
            ∙ ap (λ (ns : List (Place × Kind)). placed ns (moved out.nodes_to was.numbers)) found.nodes
            ∙ placed_moved (map node_of was.nodes) (spots [] (tree_of tree)) out.nodes_to found.nodes_to was.numbers;
        children =
            (λ i. seated (map place_of (seats_are i)) (children_are i))
            ∙ ap (λ (ps : List Place). seated ps (moved out.seats_to was.children)) found.seats
            ∙ seated_moved app (map place_of was.seats) (spots_of (side_of was).output) (spots [] (tree_of tree)) out.seats_to found.seats_to was.children;
      }

  -- the side knows its new tree
  pub kept_known : (scope : ℕ) (name : SideName) (tree : VNode P C Q V H T E L) (was : Side P C Q V H T E L) (out : Patched P C Q V H T E L)
      (nodes : List NodeAt) (seats : List (List Step)) → PatchesBy app scope name tree was out → nodes ≡ out.nodes → seats ≡ out.seats
      → knows (Some tree) nodes seats ≡ true
  kept_known scope name tree was out nodes seats found nodes_are seats_are =
      known_by (Some tree) nodes seats (ap (λ (ns : List NodeAt). map node_of ns) nodes_are ∙ found.nodes)
      (ap (λ (ps : List (List Step)). map place_of ps) seats_are ∙ found.seats)
