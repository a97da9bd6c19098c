-- What stands at the top of what a side shows: nodes of its own, and child scopes.
use Rattle.std.specs.Prelude.{ℕ, zero, suc, ◌+◌, List, [], ◌∷◌, ◌++◌, map, Option, Some, None}
use Rattle.tree_nodes.specs.declared.template.TemplateNode.{TemplateNode}
use Rattle.tree_nodes.specs.declared.vnode.VNode.{VNode}
use Rattle.tree_nodes.specs.declared.vnode.DynamicNode.{DynamicNode}
use Rattle.rt_model.specs.Tree.{Types, TemplateNodes, no_nodes, element_node, text_node, slot_node, Template, Tree, block, Slots, no_slots, more_slots, Slot, text_slot, placeholder_slot, component_slot, fragment_slot, Trees, no_trees, more_trees, item, Place, Kind, an_element, a_static_text, a_text, a_placeholder, an_empty_fragment, place_in}
use Rattle.rt_model.specs.Heard.{number_at}
use Rattle.rt_model.specs.Document.{Forest}
use Rattle.rt_model.specs.Run.{child_at}
use Rattle.rt_model.specs.State as state
use Rattle.tree_mirror.specs.Mirror.{slots_from}
use Rattle.tree_mirror.specs.Sealed.{node_before, template_of, tree_of, slot_of}
use Rattle.run_places.specs.declared.side.Side.{Side}
use Rattle.run_places.specs.Places.{side_of}
use Rattle.run_places.specs.Sides.{child_in, number_in}
use Rattle.run_shown.specs.declared.pieces.Top.{Top}
use Rattle.run_shown.specs.declared.pieces.Top.TheVariants as top
use Rattle.run_shown.specs.Tops.{tops_of}

-- the numbers of what stands at the top, where child scopes show what inner says
abbrev pub tops_by : (ℕ → Forest) → List Top → List ℕ
tops_by inner [] = []
tops_by inner (top.Own n ∷ ts) = n ∷ tops_by inner ts
tops_by inner (top.Child t ∷ ts) = tops_of (inner t) ++ tops_by inner ts

-- a child scope, if there is one
abbrev pub child_top : Option ℕ → List Top
child_top None = []
child_top (Some t) = top.Child t ∷ []

-- the nodes of a template, where slot gives what stands at the top of a numbered slot at a place
abbrev pub nodes_tops : List (Place × Kind × ℕ) → Template → Place → (ℕ → Place → List Top) → List ℕ → ℕ → TemplateNodes → List Top
nodes_tops numbers whole above slot up i no_nodes = []
nodes_tops numbers whole above slot up i (element_node tag namespace attributes children rest) =
    top.Own (number_at numbers (place_in whole above up i) an_element) ∷ nodes_tops numbers whole above slot up (i + 1) rest
nodes_tops numbers whole above slot up i (text_node text rest) =
    top.Own (number_at numbers (place_in whole above up i) a_static_text) ∷ nodes_tops numbers whole above slot up (i + 1) rest
nodes_tops numbers whole above slot up i (slot_node k rest) =
    slot k (place_in whole above up i) ++ nodes_tops numbers whole above slot up (i + 1) rest

module _ {K : Types} where
  abbrev mutual
    -- a tree
    pub tree_tops : state.Side K → Place → Tree K → List Top
    tree_tops side above (block template given slots) =
        nodes_tops side.numbers template above (λ k place. slots_tops side slots k place) [] 0 template.roots

    -- the slot with a number
    pub slots_tops : state.Side K → Slots K → ℕ → Place → List Top
    slots_tops side no_slots k place = []
    slots_tops side (more_slots v rest) zero place = slot_tops side v place
    slots_tops side (more_slots v rest) (suc k) place = slots_tops side rest k place

    -- what stands in a slot
    pub slot_tops : state.Side K → Slot K → Place → List Top
    slot_tops side (text_slot text) place = top.Own (number_at side.numbers place a_text) ∷ []
    slot_tops side placeholder_slot place = top.Own (number_at side.numbers place a_placeholder) ∷ []
    slot_tops side (component_slot c) place = child_top (child_at side.children place)
    slot_tops side (fragment_slot no_trees) place = top.Own (number_at side.numbers place an_empty_fragment) ∷ []
    slot_tops side (fragment_slot (more_trees t ts)) place = items_tops side 0 place (more_trees t ts)

    -- a fragment's items
    pub items_tops : state.Side K → ℕ → Place → Trees K → List Top
    items_tops side i place no_trees = []
    items_tops side i place (more_trees t ts) = tree_tops side (place ++ item i ∷ []) t ++ items_tops side (i + 1) place ts

module _ {P C Q V H T E L : Type 0} where
  -- a side's own node at a place
  abbrev pub own_piece : Side P C Q V H T E L → Place → Kind → List Top
  own_piece side place kind = top.Own (number_in side place kind) ∷ []

  -- the child scope at a place
  abbrev pub child_piece : Side P C Q V H T E L → Place → List Top
  child_piece side place = child_top (child_in side place)

  -- a tree of a side
  unfoldable pub tree_pieces : Side P C Q V H T E L → VNode P C Q V H T E L → Place → List Top
  tree_pieces side tree above = tree_tops (side_of side) above (tree_of tree)

  -- a side's tree at the root, if it has one
  abbrev pub pieces_in : Side P C Q V H T E L → Option (VNode P C Q V H T E L) → List Top
  pieces_in side None = []
  pieces_in side (Some tree) = tree_pieces side tree []

  -- all that stands at the top of a side
  unfoldable pub side_pieces : Side P C Q V H T E L → List Top
  side_pieces side = pieces_in side side.output

  -- what stands in a slot
  unfoldable pub value_pieces : Side P C Q V H T E L → DynamicNode P C Q V H T E L → Place → List Top
  value_pieces side value place = slot_tops (side_of side) (slot_of value) place

  -- a fragment's items, the i-th after the first one and those after it
  abbrev pub items_pieces : Side P C Q V H T E L → ℕ → ℕ → Place → List (VNode P C Q V H T E L) → List Top
  items_pieces side first i place [] = []
  items_pieces side first i place (tree ∷ trees) =
      tree_pieces side tree (place ++ item (first + i) ∷ []) ++ items_pieces side first (i + 1) place trees

  -- a node of a tree's template
  unfoldable pub node_pieces : Side P C Q V H T E L → VNode P C Q V H T E L → Place → List ℕ → ℕ → TemplateNode → List Top
  node_pieces side tree above up i node =
      nodes_tops (side_of side).numbers (template_of tree.template) above
      (λ k place. slots_tops (side_of side) (slots_from (map slot_of tree.dynamic_nodes)) k place) up i (node_before node no_nodes)

  -- a row of nodes
  abbrev pub row_pieces : Side P C Q V H T E L → VNode P C Q V H T E L → Place → List ℕ → ℕ → List TemplateNode → List Top
  row_pieces side tree above up i [] = []
  row_pieces side tree above up i (node ∷ nodes) = node_pieces side tree above up i node ++ row_pieces side tree above up (i + 1) nodes
