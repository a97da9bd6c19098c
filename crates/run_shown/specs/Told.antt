-- The tree of a side at its root, and a node of it under an index.
use Rattle.std.specs.Prelude.{ℕ, Bool, true, false, List, [], ◌∷◌, Option, Some, None, slice_get, map, ◌≡◌}
use Rattle.tree_nodes.specs.declared.template.TemplateParts.{TemplateParts}
use Rattle.tree_nodes.specs.declared.vnode.VNode.{VNode}
use Rattle.rt_model.specs.Tree as model
use Rattle.rt_model.specs.Tree.{Place, inside, same_place}
use Rattle.tree_mirror.specs.Sealed.{template_of}
use Rattle.run_places.specs.declared.nodes.NodeAt.{NodeAt}
use Rattle.run_places.specs.declared.place.Step.{Step}
use Rattle.run_places.specs.declared.place.Step.TheVariants as steps
use Rattle.run_places.specs.declared.side.Side.{Side}
use Rattle.run_places.specs.Places.{node_of}

-- a place is one step, with this path in a template
abbrev pub IsOneStep : List Step → List ℕ → Type 0
IsOneStep place path = (t : TemplateParts) × (place ≡ steps.Inside t path ∷ [])

-- the node under an index is of this kind, and its place is one step with this path
abbrev pub IsUnder : List NodeAt → ℕ → List ℕ → model.Kind → Type 0
IsUnder nodes i path k = (t : TemplateParts) × (slice_get (map node_of nodes) i ≡ Some (inside (template_of t) path ∷ [], k))

-- where it is said, it holds
abbrev pub is_told : Bool → Bool → Bool
is_told true holds = holds
is_told false holds = true

module _ {P C Q V H T E L : Type 0} where
  -- a kept tree, if there is one, is made from a template
  abbrev pub is_made_from : Option (VNode P C Q V H T E L) → model.Template → Bool
  is_made_from None whole = false
  is_made_from (Some tree) whole = same_place (inside (template_of tree.template) [] ∷ []) (inside whole [] ∷ [])

  -- a tree stands at the root, and is made from the template of the side's tree
  abbrev pub is_tree_of : Side P C Q V H T E L → VNode P C Q V H T E L → Place → Bool
  is_tree_of side tree [] = is_made_from side.output (template_of tree.template)
  is_tree_of side tree (step ∷ above) = false
