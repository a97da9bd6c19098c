-- A tree that writes in its slots alone: its nodes are those of the old one, in their order.
use Rattle.std.specs.Prelude.{ℕ, ◌+◌, List, [], ◌∷◌, ◌++◌, map, drop, ◌≡◌}
use Rattle.rt_edits.specs.declared.edit.Edit.{Edit}
use Rattle.tree_nodes.specs.declared.template.TemplateNode.{TemplateNode}
use Rattle.tree_nodes.specs.declared.vnode.VNode.{VNode}
use Rattle.rt_model.specs.OneLog.{types}
use Rattle.rt_model.specs.Tree.{Types, Place, Spot, node_at, no_nodes, node_spots, slots_spots}
use Rattle.rt_model.specs.World.{Application}
use Rattle.rt_model.specs.Laws.{Tests}
use Rattle.rt_model.specs.Caused.{Written, writes, then_on}
use Rattle.tree_edits.specs.Documents.{edit_of}
use Rattle.tree_mirror.specs.Mirror.{slots_from}
use Rattle.tree_mirror.specs.Sealed.{node_before, slot_of, template_of}
use Rattle.run_places.specs.declared.nodes.NodeAt.{NodeAt}
use Rattle.run_places.specs.Places.{node_of}
use Rattle.run_shown.specs.declared.calm.Sides.{Sides}
use Rattle.run_shown.specs.Units.{Passes, tree_writes}

module _ {K : Types} where
  -- the nodes from one on
  abbrev pub nodes_from : List NodeAt → ℕ → List (Spot K)
  nodes_from nodes i = map (λ (x : NodeAt). node_at (node_of x).0 (node_of x).1) (drop i nodes)

module _ {P C Q V H T E L : Type 0} where
  -- the spots of a node of a tree's template
  unfoldable pub node_stands : VNode P C Q V H T E L → Place → List ℕ → ℕ → TemplateNode → List (Spot (types C Q V H T E L))
  node_stands tree above up i node =
      node_spots (template_of tree.template) above (λ k place. slots_spots (slots_from (map slot_of tree.dynamic_nodes)) k place) up i
      (node_before node no_nodes)

  -- those of a row of nodes
  abbrev pub row_stands : VNode P C Q V H T E L → Place → List ℕ → ℕ → List TemplateNode → List (Spot (types C Q V H T E L))
  row_stands tree above up i [] = []
  row_stands tree above up i (node ∷ nodes) = node_stands tree above up i node ++ row_stands tree above up (i + 1) nodes

  -- the nodes that the old side knows, from one on
  abbrev pub nodes_left : Sides P C Q V H T E L → ℕ → List (Spot (types C Q V H T E L))
  nodes_left b i = nodes_from ((b.old.now).side.now).nodes i

  -- edits and then what a part writes are these edits, whatever the application
  abbrev pub Joins : Sides P C Q V H T E L → List Edit → List Edit → (Application (types C Q V H T E L) → Written) → Type 0
  Joins b before after what =
      (app : Application (types C Q V H T E L)) → Tests C app.same_component → Passes app b.unit.now
      → then_on (writes (map edit_of before)) (what app) ≡ writes (map edit_of after)

  -- where the nodes from one on begin with those of a part, the others are those from the next one on, and what the part writes joins the
  -- edits
  abbrev pub IsStill : Sides P C Q V H T E L → ℕ → ℕ → List (Spot (types C Q V H T E L)) → List Edit → List Edit
      → (Application (types C Q V H T E L) → Written) → Type 0
  IsStill b i j part before after what =
      (rest : List (Spot (types C Q V H T E L))) → nodes_left b i ≡ part ++ rest → (nodes_left b j ≡ rest) × Joins b before after what

  -- the edits are what a tree writes, whatever the application
  abbrev pub AreStill : Sides P C Q V H T E L → VNode P C Q V H T E L → VNode P C Q V H T E L → List Edit → Type 0
  AreStill b new old edits =
      (app : Application (types C Q V H T E L)) → Tests C app.same_component → Passes app b.unit.now
      → writes (map edit_of edits) ≡ tree_writes app b [] new old
