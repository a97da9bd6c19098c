-- All of a tree comes or goes, part by part.
use Rattle.std.proofs.Common.{ℕ, ◌+◌, ◌<◌, ◌≤◌, List, [], ◌∷◌, ◌++◌, ◌≡◌, ◌≢◌, length, get_or, drop, map, refl, sym, ap, ◌∙◌}
use Rattle.std.specs.Prelude.{Option, Some, None, slice_get}
use Rattle.std.proofs.Math.ListN.{drop_of_length-le}
use Rattle.tree_nodes.specs.declared.template.TemplateAttribute.{TemplateAttribute}
use Rattle.tree_nodes.specs.declared.template.TemplateNode.{TemplateNode}
use Rattle.tree_nodes.specs.declared.template.TemplateNode.TheVariants as nodes
use Rattle.tree_nodes.specs.declared.vnode.DynamicNode.{DynamicNode}
use Rattle.tree_nodes.specs.declared.vnode.DynamicNode.TheVariants as values
use Rattle.tree_nodes.specs.declared.vnode.VComponent.{VComponent}
use Rattle.tree_nodes.specs.declared.vnode.VNode.{VNode}
use Rattle.rt_model.specs.OneLog.{types}
use Rattle.rt_model.specs.Tree as model
use Rattle.rt_model.specs.Tree.{TemplateNodes, no_nodes, element_node, text_node, slot_node, Template, Place, Spot, item, place_in, an_element, a_static_text, a_text, a_placeholder, an_empty_fragment, node_spots, slots_spots, spots}
use Rattle.tree_mirror.specs.Mirror.{slots_from}
use Rattle.tree_mirror.specs.Sealed.{component_of, nodes_of, slot_of, template_of, tree_of}
use Rattle.tree_mirror.proofs.SealedTrees.{tree_out}
use Rattle.tree_marks.specs.Marks.{Mark, template_marks, come}
use Rattle.run_places.specs.Places.{at_path}
use Rattle.run_places.specs.Spots.{tree_spots, value_spots, items_spots}
use Rattle.run_places.proofs.Stands as stands
use Rattle.run_places.proofs.Stands.{slot_there, slot_absent}
use Rattle.run_work.specs.declared.turning.Turn.{Turn}
use Rattle.run_work.specs.declared.turning.Turn.TheVariants as turns
use Rattle.run_work.specs.Grounds.{component_turns, items_turn, node_turn, node_turns, row_turn, tree_turn, turned, value_turn}
use Rattle.run_work.proofs.Walking.{mapped, next_drop, walk_Dynamic, walk_Element, walk_Text, walk_first}

module _ {K : model.Types} (turn : Turn) (whole : Template) (above : Place) (slot : ℕ → Place → List (Spot K)) where
  -- the spots of a template's nodes are those of a walk
  node_walk : (up : List ℕ) (i : ℕ) (ns : TemplateNodes)
      → map (turned turn) (node_spots whole above slot up i ns) ≡ template_marks (λ p k. node_turns turn p k) whole above (λ k place. map (turned turn) (slot k place)) up i ns
  node_walk up i no_nodes = refl
  node_walk up i (element_node tag namespace attributes children rest) =
      ap (λ es. node_turns turn (place_in whole above up i) an_element ∷ es)
      (mapped (turned turn) (node_spots whole above slot (up ++ i ∷ []) 0 children) (node_spots whole above slot up (i + 1) rest)
      ∙ (λ t. node_walk (up ++ i ∷ []) 0 children t ++ node_walk up (i + 1) rest t))
  node_walk up i (text_node text rest) = ap (λ es. node_turns turn (place_in whole above up i) a_static_text ∷ es) (node_walk up (i + 1) rest)
  node_walk up i (slot_node k rest) =
      mapped (turned turn) (slot k (place_in whole above up i)) (node_spots whole above slot up (i + 1) rest)
      ∙ ap (λ es. map (turned turn) (slot k (place_in whole above up i)) ++ es) (node_walk up (i + 1) rest)

module _ {P C Q V H T E L : Type 0} (turn : Turn) where
  abbrev pub spots_in : VNode P C Q V H T E L → ℕ → Place → List (Spot (types C Q V H T E L))
  spots_in tree k place = slots_spots (slots_from (map slot_of tree.dynamic_nodes)) k place

  abbrev walk_in : VNode P C Q V H T E L → Place → List ℕ → ℕ → TemplateNodes → List (Mark (types C Q V H T E L))
  walk_in tree above up i ns =
      template_marks (λ p k. node_turns turn p k) (template_of tree.template) above (λ k place. map (turned turn) (spots_in tree k place)) up i ns

  pub row_is : (tree : VNode P C Q V H T E L) (above : Place) (up : List ℕ) (i : ℕ) (row : List TemplateNode) → row_turn turn tree above up i row ≡ walk_in tree above up i (nodes_of row)
  unfolding node_turn
  row_is tree above up i [] = refl
  row_is tree above up i (node ∷ row) =
      ap (λ es. node_turn turn tree above up i node ++ es) (row_is tree above up (i + 1) row)
      ∙ sym (walk_first (λ p k. node_turns turn p k) (template_of tree.template) above (λ k place. map (turned turn) (spots_in tree k place)) up i node (nodes_of row))

  pub tree_row : (tree : VNode P C Q V H T E L) (above : Place) → tree_turn turn above tree ≡ row_turn turn tree above [] 0 tree.template.roots
  unfolding tree_turn tree_spots
  tree_row tree above =
      ap (λ t. map (turned turn) (model.spots above t)) (tree_out tree)
      ∙ node_walk turn (template_of tree.template) above (λ k place. spots_in tree k place) [] 0 (nodes_of tree.template.roots)
      ∙ sym (row_is tree above [] 0 tree.template.roots)

  pub node_Element : (tree : VNode P C Q V H T E L) (above : Place) (up : List ℕ) (i : ℕ) (tag : List ℕ) (namespace : Option (List ℕ)) (attrs : List TemplateAttribute) (children : List TemplateNode)
      → node_turn turn tree above up i (nodes.Element tag namespace attrs children)
      ≡ node_turns turn (at_path (template_of tree.template) above (up ++ i ∷ [])) an_element ∷ row_turn turn tree above (up ++ i ∷ []) 0 children
  unfolding node_turn
  node_Element tree above up i tag namespace attrs children =
      walk_Element (λ p k. node_turns turn p k) (template_of tree.template) above (λ k place. map (turned turn) (spots_in tree k place)) up i tag namespace attrs children
      ∙ ap (λ es. node_turns turn (place_in (template_of tree.template) above up i) an_element ∷ es) (sym (row_is tree above (up ++ i ∷ []) 0 children))

  pub node_Text : (tree : VNode P C Q V H T E L) (above : Place) (up : List ℕ) (i : ℕ) (text : List ℕ)
      → node_turn turn tree above up i (nodes.Text text) ≡ node_turns turn (at_path (template_of tree.template) above (up ++ i ∷ [])) a_static_text ∷ []
  unfolding node_turn
  node_Text tree above up i text =
      walk_Text (λ p k. node_turns turn p k) (template_of tree.template) above (λ k place. map (turned turn) (spots_in tree k place)) up i text

  pub node_Slot : (tree : VNode P C Q V H T E L) (above : Place) (up : List ℕ) (i id : ℕ) (value : DynamicNode P C Q V H T E L)
      → slice_get tree.dynamic_nodes id ≡ Some value → node_turn turn tree above up i (nodes.Dynamic id) ≡ value_turn turn value (at_path (template_of tree.template) above (up ++ i ∷ []))
  unfolding node_turn value_turn value_spots
  node_Slot tree above up i id value h =
      walk_Dynamic (λ p k. node_turns turn p k) (template_of tree.template) above (λ k place. map (turned turn) (spots_in tree k place)) up i id
      ∙ ap (λ xs. map (turned turn) xs) (slot_there tree.dynamic_nodes id value (at_path (template_of tree.template) above (up ++ i ∷ [])) h)

  pub node_no_Slot : (tree : VNode P C Q V H T E L) (above : Place) (up : List ℕ) (i id : ℕ)
      → slice_get tree.dynamic_nodes id ≡ None → node_turn turn tree above up i (nodes.Dynamic id) ≡ []
  unfolding node_turn
  node_no_Slot tree above up i id h =
      walk_Dynamic (λ p k. node_turns turn p k) (template_of tree.template) above (λ k place. map (turned turn) (spots_in tree k place)) up i id
      ∙ ap (λ xs. map (turned turn) xs) (slot_absent tree.dynamic_nodes id (at_path (template_of tree.template) above (up ++ i ∷ [])) h)

  pub value_Component : (c : VComponent P C Q V H T E L) (place : Place) → value_turn turn (values.Component c) place ≡ component_turns turn place (component_of c) ∷ []
  unfolding value_turn
  value_Component c place = ap (λ xs. map (turned turn) xs) (stands.value_Component c place)

  pub value_none : (trees : List (VNode P C Q V H T E L)) (place : Place) → trees ≡ [] → value_turn turn (values.Fragment trees) place ≡ node_turns turn place an_empty_fragment ∷ []
  unfolding value_turn
  value_none trees place none = ap (λ xs. map (turned turn) xs) (stands.value_none trees place none)

  items_are : (i : ℕ) (place : Place) (trees : List (VNode P C Q V H T E L)) → items_turn turn i place trees ≡ map (turned turn) (items_spots i place trees)
  unfolding tree_turn
  items_are i place [] = refl
  items_are i place (tree ∷ trees) =
      ap (λ es. tree_turn turn (place ++ item i ∷ []) tree ++ es) (items_are (i + 1) place trees)
      ∙ sym (mapped (turned turn) (tree_spots (place ++ item i ∷ []) tree) (items_spots (i + 1) place trees))

  pub value_some : (trees : List (VNode P C Q V H T E L)) (place : Place) → trees ≢ [] → value_turn turn (values.Fragment trees) place ≡ items_turn turn 0 place trees
  unfolding value_turn
  value_some trees place some = ap (λ xs. map (turned turn) xs) (stands.value_some trees place some) ∙ sym (items_are 0 place trees)

-- those that name no type of the trees' own
module _ {C Q V H T E L : Type 0} (P : Type 0) (turn : Turn) where
  pub value_Text : (text : List ℕ) (place : Place) → value_turn {P = P} {C = C} {Q = Q} {V = V} {H = H} {T = T} {E = E} {L = L} turn (values.Text text) place ≡ node_turns turn place a_text ∷ []
  unfolding value_turn
  value_Text text place = ap (λ xs. map (turned turn) xs) (stands.value_Text P text place)

  pub value_Placeholder : (place : Place) → value_turn {P = P} {C = C} {Q = Q} {V = V} {H = H} {T = T} {E = E} {L = L} turn values.Placeholder place ≡ node_turns turn place a_placeholder ∷ []
  unfolding value_turn
  value_Placeholder place = ap (λ xs. map (turned turn) xs) (stands.value_Placeholder P place)

-- all of a new tree comes
pub all_comes : {P C Q V H T E L : Type 0} (tree : VNode P C Q V H T E L) (above : Place) → tree_turn turns.Comes above tree ≡ map come (spots above (tree_of tree))
unfolding tree_turn tree_spots
all_comes tree above = refl

-- step by step

module _ {P C Q V H T E L : Type 0} (turn : Turn) where
  pub row_parts : (tree : VNode P C Q V H T E L) (above : Place) (up : List ℕ) (row : List TemplateNode) (i : ℕ) (node : TemplateNode) → i < length row → node ≡ get_or row i node
      → row_turn turn tree above up i (drop i row) ≡ node_turn turn tree above up i node ++ row_turn turn tree above up (i + 1) (drop (i + 1) row)
  row_parts tree above up row i node low is = ap (λ ns. row_turn turn tree above up i ns) (next_drop row i node low is)

  pub row_over : (tree : VNode P C Q V H T E L) (above : Place) (up : List ℕ) (row : List TemplateNode) (i : ℕ) → length row ≤ i → row_turn turn tree above up i (drop i row) ≡ []
  row_over tree above up row i end = ap (λ ns. row_turn turn tree above up i ns) (drop_of_length-le row end)

  pub items_parts : (place at_item : Place) (trees : List (VNode P C Q V H T E L)) (i : ℕ) (tree : VNode P C Q V H T E L) → i < length trees → tree ≡ get_or trees i tree → at_item ≡ place ++ item i ∷ []
      → items_turn turn i place (drop i trees) ≡ tree_turn turn at_item tree ++ items_turn turn (i + 1) place (drop (i + 1) trees)
  items_parts place at_item trees i tree low is at_place =
      ap (λ ts. items_turn turn i place ts) (next_drop trees i tree low is)
      ∙ ap (λ q. tree_turn turn q tree ++ items_turn turn (i + 1) place (drop (i + 1) trees)) (sym at_place)

  pub items_over : (place : Place) (trees : List (VNode P C Q V H T E L)) (i : ℕ) → length trees ≤ i → items_turn turn i place (drop i trees) ≡ []
  items_over place trees i end = ap (λ ts. items_turn turn i place ts) (drop_of_length-le trees end)
