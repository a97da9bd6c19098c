-- The climb from a number, as a look finds it, part by part.
use Rattle.std.specs.Prelude.{ℕ, zero, suc, ◌+◌, List, [], ◌∷◌, ◌++◌, map, Option, Some, None, option_map}
use Rattle.rt_model.specs.Lists.{first_of}
use Rattle.tree_nodes.specs.declared.attribute.Attribute.{Attribute}
use Rattle.tree_nodes.specs.declared.template.TemplateAttribute.{TemplateAttribute}
use Rattle.tree_nodes.specs.declared.template.TemplateNode.{TemplateNode}
use Rattle.tree_nodes.specs.declared.vnode.VNode.{VNode}
use Rattle.tree_nodes.specs.declared.vnode.DynamicNode.{DynamicNode}
use Rattle.rt_model.specs.OneLog.{types}
use Rattle.rt_model.specs.Tree as model
use Rattle.rt_model.specs.Tree.{Place, no_nodes, item}
use Rattle.rt_model.specs.Heard.{Climb, slots_on, find_nodes, find_child, find_tree, find_slots, find_slot, find_side}
use Rattle.tree_mirror.specs.Mirror.{attribute_in, attribute_of, slots_from}
use Rattle.tree_mirror.specs.Sealed.{node_before, template_of, tree_of, slot_of}
use Rattle.run_places.specs.declared.side.Side.{Side}
use Rattle.run_places.specs.Places.{side_of}
use Rattle.run_places.specs.Trails.{place_on}
use Rattle.run_places.specs.Sides.{child_in}
use Rattle.run_shown.specs.declared.look.Look.{Look}
use Rattle.run_shown.specs.declared.climb.Climbed.{Climbed}
use Rattle.run_shown.specs.declared.climb.Rooted.{Rooted}
use Rattle.run_shown.specs.Look.{look_shown}

module _ {P C Q V H T E L : Type 0} where
  -- the attribute slots of one element
  abbrev pub slots_of : List (List (Attribute P C Q V H T E L)) → List (List (model.Attribute (types C Q V H T E L)))
  slots_of slots = map (map attribute_of) slots

  -- a climb
  abbrev pub climb_of : List (List (List (Attribute P C Q V H T E L))) → Climb (types C Q V H T E L)
  climb_of climb = map slots_of climb

  -- a climb, if one was found
  abbrev pub climb_found : Option (List (List (List (Attribute P C Q V H T E L)))) → Option (Climb (types C Q V H T E L))
  climb_found climb = option_map climb_of climb

  -- what one entry of an element gives
  unfoldable pub entry_slots : List (List (Attribute P C Q V H T E L)) → TemplateAttribute
      → List (List (model.Attribute (types C Q V H T E L)))
  entry_slots given entry = slots_on (slots_of given) (attribute_in entry ∷ [])

  -- what all entries give
  abbrev pub entries_slots : List (List (Attribute P C Q V H T E L)) → List TemplateAttribute
      → List (List (model.Attribute (types C Q V H T E L)))
  entries_slots given [] = []
  entries_slots given (entry ∷ entries) = entry_slots given entry ++ entries_slots given entries

  -- the climb on a side, if there is one
  abbrev pub climb_on : ℕ → (ℕ → Option (Climb (types C Q V H T E L))) → Option (Side P C Q V H T E L)
      → Option (Climb (types C Q V H T E L))
  climb_on number inner None = None
  climb_on number inner (Some side) = find_side number inner (side_of side)

  -- the climb below a scope, at most n scopes deep
  abbrev pub climb_within : Look P C Q V H T E L → ℕ → ℕ → ℕ → Option (Climb (types C Q V H T E L))
  climb_within look number zero s = None
  climb_within look number (suc n) s = climb_on number (λ t. climb_within look number n t) (look_shown look s)

  -- the same as one word
  unfoldable pub scope_climb : Look P C Q V H T E L → ℕ → ℕ → ℕ → Option (Climb (types C Q V H T E L))
  scope_climb look number n s = climb_within look number n s

  -- the climb on a side
  unfoldable pub side_climb : Look P C Q V H T E L → ℕ → ℕ → Side P C Q V H T E L → Option (Climb (types C Q V H T E L))
  side_climb look number n side = find_side number (λ t. climb_within look number n t) (side_of side)

  -- the climb below the child scope at a place
  unfoldable pub child_climb : Look P C Q V H T E L → ℕ → ℕ → Side P C Q V H T E L → Place → Option (Climb (types C Q V H T E L))
  child_climb look number n side place = find_child (λ t. climb_within look number n t) (child_in side place)

  -- the climb in a tree
  unfoldable pub tree_climb : Look P C Q V H T E L → ℕ → ℕ → Side P C Q V H T E L → VNode P C Q V H T E L → Place
      → Option (Climb (types C Q V H T E L))
  tree_climb look number n side tree above = find_tree (side_of side) number (λ t. climb_within look number n t) above (tree_of tree)

  -- the climb in what stands in a slot
  unfoldable pub value_climb : Look P C Q V H T E L → ℕ → ℕ → Side P C Q V H T E L → DynamicNode P C Q V H T E L → Place
      → Option (Climb (types C Q V H T E L))
  value_climb look number n side value place = find_slot (side_of side) number (λ t. climb_within look number n t) (slot_of value) place

  -- the climb in a fragment's items, from a position on
  abbrev pub items_climb : Look P C Q V H T E L → ℕ → ℕ → Side P C Q V H T E L → ℕ → Place → List (VNode P C Q V H T E L)
      → Option (Climb (types C Q V H T E L))
  items_climb look number n side i place [] = None
  items_climb look number n side i place (tree ∷ trees) =
      first_of (tree_climb look number n side tree (place ++ item i ∷ [])) (items_climb look number n side (i + 1) place trees)

  -- the climb in a node of a tree's template
  unfoldable pub node_climb : Look P C Q V H T E L → ℕ → ℕ → Side P C Q V H T E L → VNode P C Q V H T E L → Place → List ℕ → ℕ
      → TemplateNode → Option (Climb (types C Q V H T E L))
  node_climb look number n side tree above up i node =
      find_nodes (side_of side).numbers number (template_of tree.template) above (slots_of tree.dynamic_attrs)
      (λ k place. find_slots (side_of side) number (λ t. climb_within look number n t) (slots_from (map slot_of tree.dynamic_nodes)) k
      place)
      up i (node_before node no_nodes)

  -- the climb in a row of nodes
  abbrev pub row_climb : Look P C Q V H T E L → ℕ → ℕ → Side P C Q V H T E L → VNode P C Q V H T E L → Place → List ℕ → ℕ
      → List TemplateNode → Option (Climb (types C Q V H T E L))
  row_climb look number n side tree above up i [] = None
  row_climb look number n side tree above up i (node ∷ nodes) =
      first_of (node_climb look number n side tree above up i node) (row_climb look number n side tree above up (i + 1) nodes)

  -- in a tree of a shown side
  abbrev pub tree_climb_in : Climbed P C Q V H T E L → ℕ → VNode P C Q V H T E L → Place → Option (Climb (types C Q V H T E L))
  tree_climb_in shown number tree above = tree_climb shown.look.now number shown.depth shown.side.now tree above

  -- in what stands in a slot of it
  abbrev pub value_climb_in : Climbed P C Q V H T E L → ℕ → DynamicNode P C Q V H T E L → Place → Option (Climb (types C Q V H T E L))
  value_climb_in shown number value place = value_climb shown.look.now number shown.depth shown.side.now value place

  -- in items of a fragment of it
  abbrev pub items_climb_in : Climbed P C Q V H T E L → ℕ → Place → List (VNode P C Q V H T E L) → Option (Climb (types C Q V H T E L))
  items_climb_in shown number place trees = items_climb shown.look.now number shown.depth shown.side.now 0 place trees

  -- in a node of a tree that stands on it
  abbrev pub node_climb_in : Rooted P C Q V H T E L → ℕ → List ℕ → ℕ → TemplateNode → Option (Climb (types C Q V H T E L))
  node_climb_in standing number up i node =
      node_climb (standing.shown.now).look.now number (standing.shown.now).depth (standing.shown.now).side.now standing.tree.now
      (place_on standing.above.now) up i node

  -- in a row of nodes of it
  abbrev pub row_climb_in : Rooted P C Q V H T E L → ℕ → List ℕ → ℕ → List TemplateNode → Option (Climb (types C Q V H T E L))
  row_climb_in standing number up i nodes =
      row_climb (standing.shown.now).look.now number (standing.shown.now).depth (standing.shown.now).side.now standing.tree.now
      (place_on standing.above.now) up i nodes
