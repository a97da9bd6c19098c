-- The climb from a number, part by part.
use Rattle.std.proofs.Common.{ℕ, zero, suc, ◌+◌, ◌-◌, List, [], ◌∷◌, ◌++◌, ◌≡◌, ◌≢◌, refl, sym, ap, ◌∙◌, map, nat_eq, arith}
use Rattle.std.specs.Prelude.{Option, Some, None, slice_get, if◌then◌else◌}
use Rattle.std.specs.List.{slice_index_or}
use Rattle.rt_model.specs.Lists.{first_of}
use Rattle.tree_nodes.specs.declared.attribute.Attribute.{Attribute}
use Rattle.tree_nodes.specs.declared.template.TemplateAttribute.{TemplateAttribute}
use Rattle.tree_nodes.specs.declared.template.TemplateAttribute.TheVariants as entries
use Rattle.tree_nodes.specs.declared.template.TemplateNode.{TemplateNode}
use Rattle.tree_nodes.specs.declared.template.TemplateNode.TheVariants as nodes
use Rattle.tree_nodes.specs.declared.template.TemplateNode.TheOpen.{TemplateNode-F}
use Rattle.tree_nodes.specs.declared.template.TemplateNode.TheViews.{out-TemplateNode}
use Rattle.tree_nodes.specs.declared.vnode.DynamicNode.{DynamicNode}
use Rattle.tree_nodes.specs.declared.vnode.DynamicNode.TheVariants as values
use Rattle.tree_nodes.specs.declared.vnode.VComponent.{VComponent}
use Rattle.tree_nodes.specs.declared.vnode.VNode.{VNode}
use Rattle.rt_model.specs.OneLog.{types}
use Rattle.rt_model.specs.Tree as model
use Rattle.rt_model.specs.Tree.{TemplateNodes, no_nodes, Template, Place, Kind, item, fragment_slot, an_element, a_static_text, a_text, a_placeholder, an_empty_fragment}
use Rattle.rt_model.specs.Heard as heard
use Rattle.rt_model.specs.Heard.{Climb, below_element, slots_on, leaf_climb, find_nodes, find_child, find_tree, find_slots, find_slot, find_side}
use Rattle.tree_mirror.specs.Mirror.{attribute_in, attribute_of, all_before, before_step, slots_from, trees_from}
use Rattle.tree_mirror.specs.Sealed.{node_before, nodes_of, template_of, tree_of, slot_of}
use Rattle.tree_mirror.proofs.SealedNodes.{below, before_out, before_Element, before_Text, before_Dynamic}
use Rattle.tree_mirror.proofs.SealedTrees.{tree_out, slot_Text, slot_Placeholder, slot_Component, slot_Fragment}
use Rattle.run_places.specs.declared.side.Side.{Side}
use Rattle.run_places.specs.Places.{at_path, output_of, side_of}
use Rattle.run_places.proofs.Trails.{on_Root, on_Inside, on_Item, path_Top, path_Below}
use Rattle.run_places.specs.Sides.{number_in, child_in}
use Rattle.run_attributes.proofs.Contents.{slot_given}
use Rattle.run_shown.specs.declared.look.Look.{Look}
use Rattle.run_shown.specs.Look.{look_shown}
use Rattle.run_shown.specs.Climbs.{slots_of, entry_slots, entries_slots, climb_on, climb_within, scope_climb, side_climb, child_climb, tree_climb, value_climb, items_climb, node_climb, row_climb}

module _ {K : model.Types} where
  or-none : (found : Option (Climb K)) → first_of found None ≡ found
  or-none None = refl
  or-none (Some climb) = refl

  -- one level of a template before others: what is found in it, else in them
  level_found : (numbers : List (Place × Kind × ℕ)) (number : ℕ) (whole : Template) (above : Place) (given : List (List (model.Attribute K))) (slot : ℕ → Place → Option (Climb K))
      (y : TemplateNode-F (TemplateNodes → TemplateNodes)) (up : List ℕ) (i : ℕ) (rest : TemplateNodes)
      → find_nodes numbers number whole above given slot up i (before_step y rest)
      ≡ first_of (find_nodes numbers number whole above given slot up i (before_step y no_nodes)) (find_nodes numbers number whole above given slot up (i + 1) rest)
  level_found numbers number whole above given slot (TemplateNode-F.Element tag namespace attrs children) up i rest =
      ap (λ f. first_of f (find_nodes numbers number whole above given slot up (i + 1) rest))
      (sym (or-none (if nat_eq (heard.number_at numbers (model.place_in whole above up i) an_element) number then Some (slots_on given (map attribute_in attrs) ∷ []) else below_element (slots_on given (map attribute_in attrs)) (find_nodes numbers number whole above given slot (up ++ i ∷ []) 0 (all_before children no_nodes)))))
  level_found numbers number whole above given slot (TemplateNode-F.Text text) up i rest =
      ap (λ f. first_of f (find_nodes numbers number whole above given slot up (i + 1) rest)) (sym (or-none (leaf_climb number (heard.number_at numbers (model.place_in whole above up i) a_static_text))))
  level_found numbers number whole above given slot (TemplateNode-F.Dynamic id) up i rest =
      ap (λ f. first_of f (find_nodes numbers number whole above given slot up (i + 1) rest)) (sym (or-none (slot id (model.place_in whole above up i))))

module _ {P C Q V H T E L : Type 0} where
  pub slots-append : (a b : List (List (Attribute P C Q V H T E L))) → slots_of (a ++ b) ≡ slots_of a ++ slots_of b
  slots-append [] b = refl
  slots-append (x ∷ a) b = ap (λ xs. map attribute_of x ∷ xs) (slots-append a b)

  -- entries of an element

  pub slots_Static : (given : List (List (Attribute P C Q V H T E L))) (name : List ℕ) (namespace : Option (List ℕ)) (value : List ℕ) → entry_slots given (entries.Static name namespace value) ≡ []
  unfolding entry_slots
  slots_Static given name namespace value = refl

  pub slots_Dynamic : (given : List (List (Attribute P C Q V H T E L))) (id : ℕ) → entry_slots given (entries.Dynamic id) ≡ map attribute_of (slice_index_or given id []) ∷ []
  unfolding entry_slots
  slots_Dynamic given id = ap (λ xs. xs ∷ []) (slot_given given id)

  pub slots_are : (given : List (List (Attribute P C Q V H T E L))) (es : List TemplateAttribute) → entries_slots given es ≡ slots_on (slots_of given) (map attribute_in es)
  unfolding entry_slots
  slots_are given [] = refl
  slots_are given (entries.Static name namespace value ∷ es) = slots_are given es
  slots_are given (entries.Dynamic id ∷ es) = ap (λ xs. model.attributes_in (slots_of given) id ∷ xs) (slots_are given es)

  -- scopes

  pub scope_out : (look : Look P C Q V H T E L) (number n s : ℕ) → n ≡ 0 → scope_climb look number n s ≡ None
  unfolding scope_climb
  scope_out look number n s none = ap (λ m. climb_within look number m s) none

  pub scope_none : (look : Look P C Q V H T E L) (number n s : ℕ) → look_shown look s ≡ None → scope_climb look number n s ≡ None
  unfolding scope_climb
  scope_none look number zero s none = refl
  scope_none look number (suc n) s none = ap (λ o. climb_on number (λ t. climb_within look number n t) o) none

  pub scope_some : (look : Look P C Q V H T E L) (number n s : ℕ) (side : Side P C Q V H T E L) → n ≢ 0 → look_shown look s ≡ Some side → scope_climb look number n s ≡ side_climb look number (n - 1) side
  unfolding scope_climb side_climb
  scope_some look number zero s side some h = absurd (some refl)
  scope_some look number (suc n) s side some h =
      ap (λ o. climb_on number (λ t. climb_within look number n t) o) h ∙ ap (λ m. side_climb look number m side) (let e : n ≡ suc n - 1 = omega arith in e)

  pub side_none : (look : Look P C Q V H T E L) (number n : ℕ) (side : Side P C Q V H T E L) → side.output ≡ None → side_climb look number n side ≡ None
  unfolding side_climb
  side_none look number n side none = ap (λ (o : Option (VNode P C Q V H T E L)). find_side number (λ t. climb_within look number n t) (record (side_of side) { output = output_of o })) none

  pub side_some : (look : Look P C Q V H T E L) (number n : ℕ) (side : Side P C Q V H T E L) (tree : VNode P C Q V H T E L) → side.output ≡ Some tree → side_climb look number n side ≡ tree_climb look number n side tree []
  unfolding side_climb tree_climb
  side_some look number n side tree some =
      ap (λ (o : Option (VNode P C Q V H T E L)). elim (output_of o) as (λ x. Option (Climb (types C Q V H T E L))) [ None ↦ None | Some t ↦ find_tree (side_of side) number (λ u. climb_within look number n u) [] t ]) some

  pub child_none : (look : Look P C Q V H T E L) (number n : ℕ) (side : Side P C Q V H T E L) (place : Place) → child_in side place ≡ None → child_climb look number n side place ≡ None
  unfolding child_climb
  child_none look number n side place none = ap (λ o. find_child (λ t. climb_within look number n t) o) none

  pub child_some : (look : Look P C Q V H T E L) (number n : ℕ) (side : Side P C Q V H T E L) (place : Place) (t : ℕ) → child_in side place ≡ Some t → child_climb look number n side place ≡ scope_climb look number n t
  unfolding child_climb scope_climb
  child_some look number n side place t some = ap (λ o. find_child (λ u. climb_within look number n u) o) some

  -- what stands in slots

  pub value_Text : (look : Look P C Q V H T E L) (number n : ℕ) (side : Side P C Q V H T E L) (text : List ℕ) (place : Place)
      → value_climb look number n side (values.Text text) place ≡ leaf_climb number (number_in side place a_text)
  unfolding value_climb
  value_Text look number n side text place = ap (λ v. find_slot (side_of side) number (λ t. climb_within look number n t) v place) (slot_Text P text)

  pub value_Placeholder : (look : Look P C Q V H T E L) (number n : ℕ) (side : Side P C Q V H T E L) (place : Place)
      → value_climb look number n side values.Placeholder place ≡ leaf_climb number (number_in side place a_placeholder)
  unfolding value_climb
  value_Placeholder look number n side place = ap (λ v. find_slot (side_of side) number (λ t. climb_within look number n t) v place) (slot_Placeholder P)

  pub value_Component : (look : Look P C Q V H T E L) (number n : ℕ) (side : Side P C Q V H T E L) (c : VComponent P C Q V H T E L) (place : Place)
      → value_climb look number n side (values.Component c) place ≡ child_climb look number n side place
  unfolding value_climb child_climb
  value_Component look number n side c place = ap (λ v. find_slot (side_of side) number (λ t. climb_within look number n t) v place) (slot_Component c)

  pub value_none : (look : Look P C Q V H T E L) (number n : ℕ) (side : Side P C Q V H T E L) (trees : List (VNode P C Q V H T E L)) (place : Place) → trees ≡ []
      → value_climb look number n side (values.Fragment trees) place ≡ leaf_climb number (number_in side place an_empty_fragment)
  unfolding value_climb
  value_none look number n side trees place none =
      ap (λ v. find_slot (side_of side) number (λ t. climb_within look number n t) v place) (slot_Fragment trees) ∙
      ap (λ ts. find_slot (side_of side) number (λ t. climb_within look number n t) (fragment_slot (trees_from (map tree_of ts))) place) none

  items_are : (look : Look P C Q V H T E L) (number n : ℕ) (side : Side P C Q V H T E L) (i : ℕ) (place : Place) (trees : List (VNode P C Q V H T E L))
      → items_climb look number n side i place trees ≡ heard.find_items (side_of side) number (λ t. climb_within look number n t) i place (trees_from (map tree_of trees))
  unfolding tree_climb
  items_are look number n side i place [] = refl
  items_are look number n side i place (tree ∷ trees) =
      ap (λ f. first_of (tree_climb look number n side tree (place ++ item i ∷ [])) f) (items_are look number n side (i + 1) place trees)

  pub value_some : (look : Look P C Q V H T E L) (number n : ℕ) (side : Side P C Q V H T E L) (trees : List (VNode P C Q V H T E L)) (place : Place) → trees ≢ []
      → value_climb look number n side (values.Fragment trees) place ≡ items_climb look number n side 0 place trees
  unfolding value_climb
  value_some look number n side [] place some = absurd (some refl)
  value_some look number n side (tree ∷ trees) place some =
      ap (λ v. find_slot (side_of side) number (λ t. climb_within look number n t) v place) (slot_Fragment (tree ∷ trees)) ∙ sym (items_are look number n side 0 place (tree ∷ trees))

  -- nodes of a template

  -- what stands in a slot of a tree
  abbrev pub slot_in : Look P C Q V H T E L → ℕ → ℕ → Side P C Q V H T E L → VNode P C Q V H T E L → ℕ → Place → Option (Climb (types C Q V H T E L))
  slot_in look number n side tree k place = find_slots (side_of side) number (λ t. climb_within look number n t) (slots_from (map slot_of tree.dynamic_nodes)) k place

  -- what stands among the nodes of its template
  abbrev pub nodes_in : Look P C Q V H T E L → ℕ → ℕ → Side P C Q V H T E L → VNode P C Q V H T E L → Place → List ℕ → ℕ → TemplateNodes → Option (Climb (types C Q V H T E L))
  nodes_in look number n side tree above up i ns =
      find_nodes (side_of side).numbers number (template_of tree.template) above (slots_of tree.dynamic_attrs) (λ k place. slot_in look number n side tree k place) up i ns

  first_found : (look : Look P C Q V H T E L) (number n : ℕ) (side : Side P C Q V H T E L) (tree : VNode P C Q V H T E L) (above : Place) (up : List ℕ) (i : ℕ) (node : TemplateNode) (rest : TemplateNodes)
      → nodes_in look number n side tree above up i (node_before node rest) ≡ first_of (node_climb look number n side tree above up i node) (nodes_in look number n side tree above up (i + 1) rest)
  unfolding node_climb
  first_found look number n side tree above up i node rest =
      ap (λ ns. nodes_in look number n side tree above up i ns) (before_out node rest) ∙
      level_found (side_of side).numbers number (template_of tree.template) above (slots_of tree.dynamic_attrs) (λ k place. slot_in look number n side tree k place) (below (out-TemplateNode node)) up i rest ∙
      ap (λ ns. first_of (nodes_in look number n side tree above up i ns) (nodes_in look number n side tree above up (i + 1) rest)) (sym (before_out node no_nodes))

  pub row_is : (look : Look P C Q V H T E L) (number n : ℕ) (side : Side P C Q V H T E L) (tree : VNode P C Q V H T E L) (above : Place) (up : List ℕ) (i : ℕ) (row : List TemplateNode)
      → row_climb look number n side tree above up i row ≡ nodes_in look number n side tree above up i (nodes_of row)
  row_is look number n side tree above up i [] = refl
  row_is look number n side tree above up i (node ∷ row) =
      ap (λ f. first_of (node_climb look number n side tree above up i node) f) (row_is look number n side tree above up (i + 1) row) ∙
      sym (first_found look number n side tree above up i node (nodes_of row))

  pub tree_row : (look : Look P C Q V H T E L) (number n : ℕ) (side : Side P C Q V H T E L) (tree : VNode P C Q V H T E L) (above : Place)
      → tree_climb look number n side tree above ≡ row_climb look number n side tree above [] 0 tree.template.roots
  unfolding tree_climb
  tree_row look number n side tree above =
      ap (λ t. find_tree (side_of side) number (λ u. climb_within look number n u) above t) (tree_out tree) ∙ sym (row_is look number n side tree above [] 0 tree.template.roots)

  pub node_Element : (look : Look P C Q V H T E L) (number n : ℕ) (side : Side P C Q V H T E L) (tree : VNode P C Q V H T E L) (above : Place) (up : List ℕ) (i : ℕ)
      (tag : List ℕ) (namespace : Option (List ℕ)) (attrs : List TemplateAttribute) (children : List TemplateNode)
      → node_climb look number n side tree above up i (nodes.Element tag namespace attrs children)
      ≡ (if nat_eq (number_in side (at_path (template_of tree.template) above (up ++ i ∷ [])) an_element) number
      then Some (entries_slots tree.dynamic_attrs attrs ∷ [])
      else below_element (entries_slots tree.dynamic_attrs attrs) (row_climb look number n side tree above (up ++ i ∷ []) 0 children))
  unfolding node_climb
  node_Element look number n side tree above up i tag namespace attrs children =
      let here : ℕ = number_in side (at_path (template_of tree.template) above (up ++ i ∷ [])) an_element in
      ap (λ ns. nodes_in look number n side tree above up i ns) (before_Element tag namespace attrs children no_nodes) ∙
      or-none (if nat_eq here number then Some (slots_on (slots_of tree.dynamic_attrs) (map attribute_in attrs) ∷ []) else below_element (slots_on (slots_of tree.dynamic_attrs) (map attribute_in attrs)) (nodes_in look number n side tree above (up ++ i ∷ []) 0 (nodes_of children))) ∙
      (λ k. if nat_eq here number then Some (sym (slots_are tree.dynamic_attrs attrs) k ∷ []) else below_element (sym (slots_are tree.dynamic_attrs attrs) k) (sym (row_is look number n side tree above (up ++ i ∷ []) 0 children) k))

  pub node_Text : (look : Look P C Q V H T E L) (number n : ℕ) (side : Side P C Q V H T E L) (tree : VNode P C Q V H T E L) (above : Place) (up : List ℕ) (i : ℕ) (text : List ℕ)
      → node_climb look number n side tree above up i (nodes.Text text) ≡ leaf_climb number (number_in side (at_path (template_of tree.template) above (up ++ i ∷ [])) a_static_text)
  unfolding node_climb
  node_Text look number n side tree above up i text =
      ap (λ ns. nodes_in look number n side tree above up i ns) (before_Text text no_nodes) ∙
      or-none (leaf_climb number (number_in side (at_path (template_of tree.template) above (up ++ i ∷ [])) a_static_text))

  slot_there : (look : Look P C Q V H T E L) (number n : ℕ) (side : Side P C Q V H T E L) (vs : List (DynamicNode P C Q V H T E L)) (k : ℕ) (value : DynamicNode P C Q V H T E L) (place : Place)
      → slice_get vs k ≡ Some value
      → find_slots (side_of side) number (λ t. climb_within look number n t) (slots_from (map slot_of vs)) k place ≡ find_slot (side_of side) number (λ t. climb_within look number n t) (slot_of value) place
  slot_there look number n side [] k value place h = cc
  slot_there look number n side (v ∷ vs) zero value place h = ap (λ x. find_slot (side_of side) number (λ t. climb_within look number n t) (slot_of x) place) (let e : v ≡ value = cc in e)
  slot_there look number n side (v ∷ vs) (suc k) value place h = slot_there look number n side vs k value place h

  slot_absent : (look : Look P C Q V H T E L) (number n : ℕ) (side : Side P C Q V H T E L) (vs : List (DynamicNode P C Q V H T E L)) (k : ℕ) (place : Place)
      → slice_get vs k ≡ None → find_slots (side_of side) number (λ t. climb_within look number n t) (slots_from (map slot_of vs)) k place ≡ None
  slot_absent look number n side [] k place h = refl
  slot_absent look number n side (v ∷ vs) zero place h = cc
  slot_absent look number n side (v ∷ vs) (suc k) place h = slot_absent look number n side vs k place h

  pub node_Slot : (look : Look P C Q V H T E L) (number n : ℕ) (side : Side P C Q V H T E L) (tree : VNode P C Q V H T E L) (above : Place) (up : List ℕ) (i id : ℕ) (value : DynamicNode P C Q V H T E L)
      → slice_get tree.dynamic_nodes id ≡ Some value
      → node_climb look number n side tree above up i (nodes.Dynamic id) ≡ value_climb look number n side value (at_path (template_of tree.template) above (up ++ i ∷ []))
  unfolding node_climb value_climb
  node_Slot look number n side tree above up i id value h =
      let place : Place = at_path (template_of tree.template) above (up ++ i ∷ []) in
      ap (λ ns. nodes_in look number n side tree above up i ns) (before_Dynamic id no_nodes) ∙ or-none (slot_in look number n side tree id place) ∙
      slot_there look number n side tree.dynamic_nodes id value place h

  pub node_no_Slot : (look : Look P C Q V H T E L) (number n : ℕ) (side : Side P C Q V H T E L) (tree : VNode P C Q V H T E L) (above : Place) (up : List ℕ) (i id : ℕ)
      → slice_get tree.dynamic_nodes id ≡ None → node_climb look number n side tree above up i (nodes.Dynamic id) ≡ None
  unfolding node_climb
  node_no_Slot look number n side tree above up i id h =
      let place : Place = at_path (template_of tree.template) above (up ++ i ∷ []) in
      ap (λ ns. nodes_in look number n side tree above up i ns) (before_Dynamic id no_nodes) ∙ or-none (slot_in look number n side tree id place) ∙
      slot_absent look number n side tree.dynamic_nodes id place h

pub ruleset climbing = (slots_Static, slots_Dynamic, scope_out, scope_none, scope_some, side_none, side_some, child_none, child_some, value_Text, value_Placeholder, value_Component, value_none, value_some, tree_row, node_Element, node_Text, node_Slot, node_no_Slot, on_Root, on_Inside, on_Item, path_Top, path_Below)
