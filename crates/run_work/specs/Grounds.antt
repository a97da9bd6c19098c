-- What a walk has found, as the mirror has it; and what becomes of trees of which all comes or goes.
use Rattle.std.specs.Prelude.{ℕ, ◌+◌, List, [], ◌∷◌, ◌++◌, map, Option, Some, None, slice_get}
use Rattle.tree_nodes.specs.declared.vnode.VNode.{VNode}
use Rattle.tree_nodes.specs.declared.vnode.DynamicNode.{DynamicNode}
use Rattle.tree_nodes.specs.declared.template.TemplateNode.{TemplateNode}
use Rattle.rt_model.specs.OneLog.{types}
use Rattle.rt_model.specs.Tree as model
use Rattle.rt_model.specs.Tree.{Place, Spot, no_nodes, item, slots_spots}
use Rattle.tree_mirror.specs.Mirror.{slots_from}
use Rattle.tree_mirror.specs.Sealed.{node_before, slot_of, template_of}
use Rattle.tree_marks.specs.Marks.{Mark, template_marks, gone, come}
use Rattle.run_places.specs.declared.place.Step.{Step}
use Rattle.run_places.specs.declared.side.Side.{Side}
use Rattle.run_places.specs.Indexed.{node_index, place_in, seat_index}
use Rattle.run_places.specs.Places.{node_of, place_of, side_name_of, side_of}
use Rattle.run_places.specs.Spots.{tree_spots, value_spots}
use Rattle.run_work.specs.declared.patched.Ground.{Ground}
use Rattle.run_work.specs.declared.patched.Patched.{Patched}
use Rattle.run_work.specs.declared.turning.Turn.{Turn}
use Rattle.run_work.specs.declared.turning.Turn.TheVariants as turns
use Rattle.run_work.specs.Items.{work_of}
use Rattle.run_work.specs.After as after

module _ {K : model.Types} where
  -- what becomes of a spot
  abbrev pub turned : Turn → Spot K → Mark K
  turned turns.Comes spot = come spot
  turned turns.Goes spot = gone spot

  -- what becomes of a node
  abbrev pub node_turns : Turn → Place → model.Kind → Mark K
  node_turns turn p k = turned turn (model.node_at p k)

  -- what becomes of a component
  abbrev pub component_turns : Turn → Place → model.VComponent K → Mark K
  component_turns turn p c = turned turn (model.component_at p c)

module _ {P C Q V H T E L : Type 0} where
  -- where a new tree comes
  unfoldable pub ground_of : Ground P C Q V H T E L → after.Ground (types C Q V H T E L)
  ground_of g =
      record {
        scope = g.scope;
        side = side_name_of g.name;
        node_known = λ p k. node_index (g.side.now).nodes p k;
        seat_known = λ p. seat_index (g.side.now).seats p;
        children = (side_of g.side.now).children;
      }

  -- what was found
  unfoldable pub out_of : Patched P C Q V H T E L → after.Out (types C Q V H T E L)
  out_of o =
      record {
        work = work_of o.work;
        drops = work_of o.drops;
        nodes = map node_of o.nodes;
        seats = map place_of o.seats;
        nodes_to = o.nodes_to;
        seats_to = o.seats_to;
      }

  -- the place of the node that a side knows under an index
  abbrev pub node_known : Side P C Q V H T E L → Option ℕ → Option (List Step)
  node_known side None = None
  node_known side (Some i) = place_in side.nodes i

  -- the place of the component that a side knows under an index
  abbrev pub seat_known : Side P C Q V H T E L → Option ℕ → Option (List Step)
  seat_known side None = None
  seat_known side (Some i) = slice_get side.seats i

  -- all of a tree
  unfoldable pub tree_turn : Turn → Place → VNode P C Q V H T E L → List (Mark (types C Q V H T E L))
  tree_turn turn above tree = map (turned turn) (tree_spots above tree)

  -- what stands in a slot
  unfoldable pub value_turn : Turn → DynamicNode P C Q V H T E L → Place → List (Mark (types C Q V H T E L))
  value_turn turn value place = map (turned turn) (value_spots value place)

  -- the items of a fragment from a position on
  abbrev pub items_turn : Turn → ℕ → Place → List (VNode P C Q V H T E L) → List (Mark (types C Q V H T E L))
  items_turn turn i place [] = []
  items_turn turn i place (tree ∷ trees) = tree_turn turn (place ++ item i ∷ []) tree ++ items_turn turn (i + 1) place trees

  -- a node of a tree's template
  unfoldable pub node_turn : Turn → VNode P C Q V H T E L → Place → List ℕ → ℕ → TemplateNode → List (Mark (types C Q V H T E L))
  node_turn turn tree above up i node =
      template_marks (λ p k. node_turns turn p k) (template_of tree.template) above
      (λ k place. map (turned turn) (slots_spots (slots_from (map slot_of tree.dynamic_nodes)) k place)) up i (node_before node no_nodes)

  -- a row of nodes
  abbrev pub row_turn : Turn → VNode P C Q V H T E L → Place → List ℕ → ℕ → List TemplateNode → List (Mark (types C Q V H T E L))
  row_turn turn tree above up i [] = []
  row_turn turn tree above up i (node ∷ nodes) = node_turn turn tree above up i node ++ row_turn turn tree above up (i + 1) nodes

-- a place that is known, or else another
abbrev pub known_or : Option (List Step) → List Step → List Step
known_or None place = place
known_or (Some known) place = known
