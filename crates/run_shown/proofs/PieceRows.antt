-- What stands at the top of what shows, part by part.
use Rattle.std.proofs.Common.{ℕ, zero, suc, ◌+◌, List, [], ◌∷◌, ◌++◌, ◌≡◌, ◌≢◌, ◌<◌, ◌≤◌, refl, sym, ap, ◌∙◌, map, length, get_or, drop, arith}
use Rattle.std.specs.Prelude.{Option, Some, None, slice_get}
use Rattle.std.proofs.Math.ListN.{drop_of_length-le}
use Rattle.std.proofs.lemmas.List.{append_assoc}
use Rattle.tree_nodes.specs.declared.template.TemplateAttribute.{TemplateAttribute}
use Rattle.tree_nodes.specs.declared.template.TemplateNode.{TemplateNode}
use Rattle.tree_nodes.specs.declared.template.TemplateNode.TheVariants as nodes
use Rattle.tree_nodes.specs.declared.template.TemplateNode.TheOpen.{TemplateNode-F}
use Rattle.tree_nodes.specs.declared.template.TemplateNode.TheViews.{out-TemplateNode}
use Rattle.tree_nodes.specs.declared.vnode.DynamicNode.{DynamicNode}
use Rattle.tree_nodes.specs.declared.vnode.DynamicNode.TheVariants as values
use Rattle.tree_nodes.specs.declared.vnode.VComponent.{VComponent}
use Rattle.tree_nodes.specs.declared.vnode.VNode.{VNode}
use Rattle.rt_model.specs.Tree as model
use Rattle.rt_model.specs.Tree.{TemplateNodes, no_nodes, Template, Place, Kind, item, fragment_slot, an_element, a_static_text, a_text, a_placeholder, an_empty_fragment}
use Rattle.tree_mirror.specs.Mirror.{before_step, slots_from, trees_from}
use Rattle.tree_mirror.specs.Sealed.{node_before, nodes_of, template_of, tree_of, slot_of}
use Rattle.tree_mirror.proofs.SealedNodes.{below, before_out, before_Element, before_Text, before_Dynamic}
use Rattle.tree_mirror.proofs.SealedTrees.{tree_out, slot_Text, slot_Placeholder, slot_Component, slot_Fragment}
use Rattle.run_places.specs.declared.side.Side.{Side}
use Rattle.run_places.specs.Places.{at_path, side_of}
use Rattle.run_places.specs.Sides.{child_in}
use Rattle.run_places.proofs.Trails.{on_Root, on_Inside, on_Item, path_Top, path_Below}
use Rattle.run_shown.specs.declared.pieces.Top.{Top}
use Rattle.run_shown.specs.declared.pieces.Top.TheVariants as top
use Rattle.run_shown.specs.Pieces as at_top
use Rattle.run_shown.specs.Pieces.{child_piece, child_top, items_pieces, node_pieces, nodes_tops, own_piece, pieces_in, row_pieces, side_pieces, slot_tops, slots_tops, tree_pieces, value_pieces}
use Rattle.run_shown.proofs.OneByOne.{next_drop, nil-right}

-- one level of a template before others
level_tops : (numbers : List (Place × Kind × ℕ)) (whole : Template) (above : Place) (slot : ℕ → Place → List Top)
    (y : TemplateNode-F (TemplateNodes → TemplateNodes)) (up : List ℕ) (i : ℕ) (rest : TemplateNodes)
    → nodes_tops numbers whole above slot up i (before_step y rest)
    ≡ nodes_tops numbers whole above slot up i (before_step y no_nodes) ++ nodes_tops numbers whole above slot up (i + 1) rest
level_tops numbers whole above slot (TemplateNode-F.Element tag namespace attrs children) up i rest = refl
level_tops numbers whole above slot (TemplateNode-F.Text text) up i rest = refl
level_tops numbers whole above slot (TemplateNode-F.Dynamic id) up i rest =
    ap (λ ts. ts ++ nodes_tops numbers whole above slot up (i + 1) rest) (sym (nil-right (slot id (model.place_in whole above up i))))

module _ {P C Q V H T E L : Type 0} (side : Side P C Q V H T E L) where
  -- child scopes

  pub child_none : (place : Place) → child_in side place ≡ None → child_piece side place ≡ []
  child_none place none = ap child_top none

  pub child_some : (place : Place) (t : ℕ) → child_in side place ≡ Some t → child_piece side place ≡ top.Child t ∷ []
  child_some place t some = ap child_top some

  -- all of the side

  pub side_none : side.output ≡ None → side_pieces side ≡ []
  unfolding side_pieces
  side_none none = ap (λ (o : Option (VNode P C Q V H T E L)). pieces_in side o) none

  pub side_some : (tree : VNode P C Q V H T E L) → side.output ≡ Some tree → side_pieces side ≡ tree_pieces side tree []
  unfolding side_pieces
  side_some tree some = ap (λ (o : Option (VNode P C Q V H T E L)). pieces_in side o) some

  -- what stands in slots

  pub value_Text : (text : List ℕ) (place : Place) → value_pieces side (values.Text text) place ≡ own_piece side place a_text
  unfolding value_pieces
  value_Text text place = ap (λ v. slot_tops (side_of side) v place) (slot_Text P text)

  pub value_Placeholder : (place : Place) → value_pieces side values.Placeholder place ≡ own_piece side place a_placeholder
  unfolding value_pieces
  value_Placeholder place = ap (λ v. slot_tops (side_of side) v place) (slot_Placeholder P)

  pub value_Component : (c : VComponent P C Q V H T E L) (place : Place) → value_pieces side (values.Component c) place ≡ child_piece side place
  unfolding value_pieces
  value_Component c place = ap (λ v. slot_tops (side_of side) v place) (slot_Component c)

  pub value_none : (trees : List (VNode P C Q V H T E L)) (place : Place) → trees ≡ [] → value_pieces side (values.Fragment trees) place ≡ own_piece side place an_empty_fragment
  unfolding value_pieces
  value_none trees place none =
      ap (λ v. slot_tops (side_of side) v place) (slot_Fragment trees)
      ∙ ap (λ ts. slot_tops (side_of side) (fragment_slot (trees_from (map tree_of ts))) place) none

  pub items_are : (first i : ℕ) (place : Place) (trees : List (VNode P C Q V H T E L))
      → items_pieces side first i place trees ≡ at_top.items_tops (side_of side) (first + i) place (trees_from (map tree_of trees))
  unfolding tree_pieces
  items_are first i place [] = refl
  items_are first i place (tree ∷ trees) =
      ap (λ ts. tree_pieces side tree (place ++ item (first + i) ∷ []) ++ ts)
      (items_are first (i + 1) place trees
      ∙ ap (λ m. at_top.items_tops (side_of side) m place (trees_from (map tree_of trees))) (let e : first + (i + 1) ≡ first + i + 1 = omega arith in e))

  pub value_some : (trees : List (VNode P C Q V H T E L)) (place : Place) → trees ≢ [] → value_pieces side (values.Fragment trees) place ≡ items_pieces side 0 0 place trees
  unfolding value_pieces
  value_some [] place some = absurd (some refl)
  value_some (tree ∷ trees) place some =
      ap (λ v. slot_tops (side_of side) v place) (slot_Fragment (tree ∷ trees)) ∙ sym (items_are 0 0 place (tree ∷ trees))

  -- nodes of a template

  abbrev slot_in : VNode P C Q V H T E L → ℕ → Place → List Top
  slot_in tree k place = slots_tops (side_of side) (slots_from (map slot_of tree.dynamic_nodes)) k place

  abbrev nodes_in : VNode P C Q V H T E L → Place → List ℕ → ℕ → TemplateNodes → List Top
  nodes_in tree above up i ns = nodes_tops (side_of side).numbers (template_of tree.template) above (λ k place. slot_in tree k place) up i ns

  first_tops : (tree : VNode P C Q V H T E L) (above : Place) (up : List ℕ) (i : ℕ) (node : TemplateNode) (rest : TemplateNodes)
      → nodes_in tree above up i (node_before node rest) ≡ node_pieces side tree above up i node ++ nodes_in tree above up (i + 1) rest
  unfolding node_pieces
  first_tops tree above up i node rest =
      ap (λ ns. nodes_in tree above up i ns) (before_out node rest)
      ∙ level_tops (side_of side).numbers (template_of tree.template) above (λ k place. slot_in tree k place) (below (out-TemplateNode node)) up i rest
      ∙ ap (λ ns. nodes_in tree above up i ns ++ nodes_in tree above up (i + 1) rest) (sym (before_out node no_nodes))

  row_is : (tree : VNode P C Q V H T E L) (above : Place) (up : List ℕ) (i : ℕ) (row : List TemplateNode) → row_pieces side tree above up i row ≡ nodes_in tree above up i (nodes_of row)
  row_is tree above up i [] = refl
  row_is tree above up i (node ∷ row) =
      ap (λ ts. node_pieces side tree above up i node ++ ts) (row_is tree above up (i + 1) row) ∙ sym (first_tops tree above up i node (nodes_of row))

  pub tree_row : (tree : VNode P C Q V H T E L) (above : Place) → tree_pieces side tree above ≡ row_pieces side tree above [] 0 tree.template.roots
  unfolding tree_pieces
  tree_row tree above = ap (λ t. at_top.tree_tops (side_of side) above t) (tree_out tree) ∙ sym (row_is tree above [] 0 tree.template.roots)

  pub node_Element : (tree : VNode P C Q V H T E L) (above : Place) (up : List ℕ) (i : ℕ) (tag : List ℕ) (namespace : Option (List ℕ)) (attrs : List TemplateAttribute) (children : List TemplateNode)
      → node_pieces side tree above up i (nodes.Element tag namespace attrs children) ≡ own_piece side (at_path (template_of tree.template) above (up ++ i ∷ [])) an_element
  unfolding node_pieces
  node_Element tree above up i tag namespace attrs children = ap (λ ns. nodes_in tree above up i ns) (before_Element tag namespace attrs children no_nodes)

  pub node_Text : (tree : VNode P C Q V H T E L) (above : Place) (up : List ℕ) (i : ℕ) (text : List ℕ)
      → node_pieces side tree above up i (nodes.Text text) ≡ own_piece side (at_path (template_of tree.template) above (up ++ i ∷ [])) a_static_text
  unfolding node_pieces
  node_Text tree above up i text = ap (λ ns. nodes_in tree above up i ns) (before_Text text no_nodes)

  slot_there : (vs : List (DynamicNode P C Q V H T E L)) (k : ℕ) (value : DynamicNode P C Q V H T E L) (place : Place) → slice_get vs k ≡ Some value
      → slots_tops (side_of side) (slots_from (map slot_of vs)) k place ≡ slot_tops (side_of side) (slot_of value) place
  slot_there [] k value place h = cc
  slot_there (v ∷ vs) zero value place h = ap (λ x. slot_tops (side_of side) (slot_of x) place) (let e : v ≡ value = cc in e)
  slot_there (v ∷ vs) (suc k) value place h = slot_there vs k value place h

  slot_absent : (vs : List (DynamicNode P C Q V H T E L)) (k : ℕ) (place : Place) → slice_get vs k ≡ None → slots_tops (side_of side) (slots_from (map slot_of vs)) k place ≡ []
  slot_absent [] k place h = refl
  slot_absent (v ∷ vs) zero place h = cc
  slot_absent (v ∷ vs) (suc k) place h = slot_absent vs k place h

  pub node_Slot : (tree : VNode P C Q V H T E L) (above : Place) (up : List ℕ) (i id : ℕ) (value : DynamicNode P C Q V H T E L) → slice_get tree.dynamic_nodes id ≡ Some value
      → node_pieces side tree above up i (nodes.Dynamic id) ≡ value_pieces side value (at_path (template_of tree.template) above (up ++ i ∷ []))
  unfolding node_pieces value_pieces
  node_Slot tree above up i id value h =
      let place : Place = at_path (template_of tree.template) above (up ++ i ∷ []) in
      ap (λ ns. nodes_in tree above up i ns) (before_Dynamic id no_nodes) ∙ nil-right (slot_in tree id place) ∙ slot_there tree.dynamic_nodes id value place h

  pub node_no_Slot : (tree : VNode P C Q V H T E L) (above : Place) (up : List ℕ) (i id : ℕ) → slice_get tree.dynamic_nodes id ≡ None → node_pieces side tree above up i (nodes.Dynamic id) ≡ []
  unfolding node_pieces
  node_no_Slot tree above up i id h =
      let place : Place = at_path (template_of tree.template) above (up ++ i ∷ []) in
      ap (λ ns. nodes_in tree above up i ns) (before_Dynamic id no_nodes) ∙ nil-right (slot_in tree id place) ∙ slot_absent tree.dynamic_nodes id place h

  module _ (tree : VNode P C Q V H T E L) (above : Place) (up : List ℕ) (row : List TemplateNode) where
    -- one more node of a row
    pub row_more : (i : ℕ) (node : TemplateNode) (before after whole : List Top) → i < length row → node ≡ get_or row i node
        → before ++ row_pieces side tree above up i (drop i row) ≡ whole
        → after ≡ before ++ node_pieces side tree above up i node
        → after ++ row_pieces side tree above up (i + 1) (drop (i + 1) row) ≡ whole
    row_more i node before after whole low is so_far one =
        let rest : List Top = row_pieces side tree above up (i + 1) (drop (i + 1) row) in
        ap (λ ts. ts ++ rest) one
        ∙ append_assoc before (node_pieces side tree above up i node) rest
        ∙ ap (λ ns. before ++ row_pieces side tree above up i ns) (sym (next_drop row i node low is))
        ∙ so_far

    -- the whole row
    pub row_done : (i : ℕ) (all whole : List Top) → length row ≤ i → all ++ row_pieces side tree above up i (drop i row) ≡ whole → all ≡ whole
    row_done i all whole end so_far = sym (nil-right all) ∙ ap (λ ns. all ++ row_pieces side tree above up i ns) (sym (drop_of_length-le row end)) ∙ so_far

  module _ (first : ℕ) (place : Place) (trees : List (VNode P C Q V H T E L)) where
    -- one more item
    pub items_more : (i : ℕ) (tree : VNode P C Q V H T E L) (at_item : Place) (position : ℕ) (before after whole : List Top)
        → i < length trees → tree ≡ get_or trees i tree
        → before ++ items_pieces side first i place (drop i trees) ≡ whole
        → at_item ≡ place ++ item position ∷ [] → position ≡ first + i
        → after ≡ before ++ tree_pieces side tree at_item
        → after ++ items_pieces side first (i + 1) place (drop (i + 1) trees) ≡ whole
    items_more i tree at_item position before after whole low is so_far at_place at_position one =
        let rest : List Top = items_pieces side first (i + 1) place (drop (i + 1) trees) in
        ap (λ ts. ts ++ rest) (one ∙ ap (λ p. before ++ tree_pieces side tree p) (at_place ∙ ap (λ m. place ++ item m ∷ []) at_position))
        ∙ append_assoc before (tree_pieces side tree (place ++ item (first + i) ∷ [])) rest
        ∙ ap (λ ts. before ++ items_pieces side first i place ts) (sym (next_drop trees i tree low is))
        ∙ so_far

    -- all items
    pub items_done : (i : ℕ) (all whole : List Top) → length trees ≤ i → all ++ items_pieces side first i place (drop i trees) ≡ whole → all ≡ whole
    items_done i all whole end so_far = sym (nil-right all) ∙ ap (λ ts. all ++ items_pieces side first i place ts) (sym (drop_of_length-le trees end)) ∙ so_far

pub ruleset pieces = (child_none, child_some, side_none, side_some, value_Text, value_Placeholder, value_Component, value_none, value_some, tree_row, node_Element, node_Text, node_Slot, node_no_Slot, on_Root, on_Inside, on_Item, path_Top, path_Below, nil-right)
