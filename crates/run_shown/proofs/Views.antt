-- What shows, part by part.
use Rattle.std.proofs.Common.{ℕ, zero, suc, ◌+◌, ◌-◌, List, [], ◌∷◌, ◌++◌, ◌≡◌, ◌≢◌, ◌<◌, ◌≤◌, refl, sym, ap, ◌∙◌, map, length, get_or, drop, arith}
use Rattle.std.specs.Prelude.{Option, Some, None, slice_get}
use Rattle.std.proofs.Math.ListN.{drop_of_length-le}
use Rattle.rt_edits.specs.declared.doc_node.DocNode.{DocNode}
use Rattle.tree_nodes.specs.declared.template.TemplateAttribute.{TemplateAttribute}
use Rattle.tree_nodes.specs.declared.template.TemplateNode.{TemplateNode}
use Rattle.tree_nodes.specs.declared.template.TemplateNode.TheVariants as nodes
use Rattle.tree_nodes.specs.declared.template.TemplateNode.TheOpen.{TemplateNode-F}
use Rattle.tree_nodes.specs.declared.template.TemplateNode.TheViews.{out-TemplateNode}
use Rattle.tree_nodes.specs.declared.vnode.DynamicNode.{DynamicNode}
use Rattle.tree_nodes.specs.declared.vnode.DynamicNode.TheVariants as values
use Rattle.tree_nodes.specs.declared.vnode.VComponent.{VComponent}
use Rattle.tree_nodes.specs.declared.vnode.VNode.{VNode}
use Rattle.rt_model.specs.OneLog.{types}
use Rattle.rt_model.specs.Tree as model
use Rattle.rt_model.specs.Tree.{TemplateNodes, no_nodes, Template, Place, Kind, item, fragment_slot, an_element, a_static_text, a_text, a_placeholder, an_empty_fragment}
use Rattle.rt_model.specs.Document.{Forest, Node, Empty, DocElement, DocText, DocPlaceholder, join_rows}
use Rattle.rt_model.specs.View as view
use Rattle.rt_model.specs.View.{child_view, nodes_view, tree_view, slots_view, slot_view, side_view}
use Rattle.tree_mirror.specs.Mirror.{attribute_of, before_step, slots_from, trees_from}
use Rattle.tree_edits.specs.Documents.{forest_of}
use Rattle.tree_mirror.specs.Sealed.{node_before, nodes_of, template_of, tree_of, slot_of}
use Rattle.tree_mirror.proofs.SealedNodes.{below, before_out, before_Element, before_Text, before_Dynamic}
use Rattle.tree_mirror.proofs.SealedTrees.{tree_out, slot_Text, slot_Placeholder, slot_Component, slot_Fragment}
use Rattle.run_places.specs.declared.side.Side.{Side}
use Rattle.run_places.specs.Places.{at_path, output_of, side_of}
use Rattle.run_places.proofs.Trails.{on_Root, on_Inside, on_Item, path_Top, path_Below}
use Rattle.run_places.specs.Sides.{number_in, child_in}
use Rattle.run_attributes.specs.Content.{with_entries, with_all_listeners}
use Rattle.run_attributes.proofs.Contents.{entries_are, listeners_are}
use Rattle.std.specs.Borrow.{Bor}
use Rattle.run_shown.specs.declared.asked.Asked.{Asked}
use Rattle.run_shown.specs.declared.asked.Asked.TheVariants as asks
use Rattle.run_shown.specs.declared.look.Look.{Look}
use Rattle.run_shown.specs.Look.{look_shown}
use Rattle.run_shown.specs.Seen.{seen_by, seen_side, seen_within, scope_seen, side_seen, child_seen, tree_seen, value_seen, items_seen, node_seen, row_seen}
use Rattle.run_shown.proofs.Forests.{below_Element, below_Text, below_Placeholder, content_Element, content_Text, content_Placeholder, forest-append, join-empty, join-join}
use Rattle.run_shown.proofs.OneByOne.{next_drop}

module _ {K : model.Types} where
  -- one level of a template before others: what it shows, then what they show
  level_seen : (numbers : List (Place × Kind × ℕ)) (whole : Template) (above : Place) (given : List (List (model.Attribute K))) (slot : ℕ → Place → Forest)
      (y : TemplateNode-F (TemplateNodes → TemplateNodes)) (up : List ℕ) (i : ℕ) (rest : TemplateNodes)
      → nodes_view numbers whole above given slot up i (before_step y rest)
      ≡ join_rows (nodes_view numbers whole above given slot up i (before_step y no_nodes)) (nodes_view numbers whole above given slot up (i + 1) rest)
  level_seen numbers whole above given slot (TemplateNode-F.Element tag namespace attrs children) up i rest = refl
  level_seen numbers whole above given slot (TemplateNode-F.Text text) up i rest = refl
  level_seen numbers whole above given slot (TemplateNode-F.Dynamic id) up i rest =
      ap (λ f. join_rows f (nodes_view numbers whole above given slot up (i + 1) rest)) (sym (join-empty (slot id (model.place_in whole above up i))))

module _ {P C Q V H T E L : Type 0} where
  -- scopes

  pub scope_out : (look : Look P C Q V H T E L) (n s : ℕ) → n ≡ 0 → scope_seen look n s ≡ Empty
  unfolding scope_seen
  scope_out look n s none = ap (λ m. seen_within look m s) none

  pub scope_none : (look : Look P C Q V H T E L) (n s : ℕ) → look_shown look s ≡ None → scope_seen look n s ≡ Empty
  unfolding scope_seen
  scope_none look zero s none = refl
  scope_none look (suc n) s none = ap (λ o. seen_side (λ t. seen_within look n t) o) none

  pub scope_some : (look : Bor (Look P C Q V H T E L)) (n s : ℕ) (side : Side P C Q V H T E L) → n ≢ 0 → look_shown look.now s ≡ Some side
      → scope_seen look.now n s ≡ side_seen (asks.Look look (n - 1)) side
  unfolding scope_seen side_seen
  scope_some look zero s side some h = absurd (some refl)
  scope_some look (suc n) s side some h =
      ap (λ o. seen_side (λ t. seen_within look.now n t) o) h ∙ ap (λ m. side_seen (asks.Look look m) side) (let e : n ≡ suc n - 1 = omega arith in e)

  -- a look is asked, or rows are

  pub asked_look : (look : Bor (Look P C Q V H T E L)) (n t : ℕ) → seen_by (asks.Look look n) t ≡ scope_seen look.now n t
  unfolding scope_seen
  asked_look look n t = refl

  pub side_none : (asked : Asked P C Q V H T E L) (side : Side P C Q V H T E L) → side.output ≡ None → side_seen asked side ≡ Empty
  unfolding side_seen
  side_none asked side none = ap (λ (o : Option (VNode P C Q V H T E L)). side_view (λ t. seen_by asked t) (record (side_of side) { output = output_of o })) none

  pub side_some : (asked : Asked P C Q V H T E L) (side : Side P C Q V H T E L) (tree : VNode P C Q V H T E L) → side.output ≡ Some tree → side_seen asked side ≡ tree_seen asked side tree []
  unfolding side_seen tree_seen
  side_some asked side tree some = ap (λ (o : Option (VNode P C Q V H T E L)). elim (output_of o) as (λ x. Forest) [ None ↦ Empty | Some t ↦ tree_view (side_of side) (λ t. seen_by asked t) [] t ]) some

  pub child_none : (asked : Asked P C Q V H T E L) (side : Side P C Q V H T E L) (place : Place) → child_in side place ≡ None → child_seen asked side place ≡ Empty
  unfolding child_seen
  child_none asked side place none = ap (λ o. child_view (λ t. seen_by asked t) o) none

  pub child_some : (asked : Asked P C Q V H T E L) (side : Side P C Q V H T E L) (place : Place) (t : ℕ) → child_in side place ≡ Some t → child_seen asked side place ≡ seen_by asked t
  unfolding child_seen
  child_some asked side place t some = ap (λ o. child_view (λ t. seen_by asked t) o) some

  -- what stands in slots

  pub value_Text : (asked : Asked P C Q V H T E L) (side : Side P C Q V H T E L) (text : List ℕ) (place : Place)
      → value_seen asked side (values.Text text) place ≡ Node (number_in side place a_text) (DocText text) Empty Empty
  unfolding value_seen
  value_Text asked side text place = ap (λ v. slot_view (side_of side) (λ t. seen_by asked t) v place) (slot_Text P text)

  pub value_Placeholder : (asked : Asked P C Q V H T E L) (side : Side P C Q V H T E L) (place : Place)
      → value_seen asked side values.Placeholder place ≡ Node (number_in side place a_placeholder) DocPlaceholder Empty Empty
  unfolding value_seen
  value_Placeholder asked side place = ap (λ v. slot_view (side_of side) (λ t. seen_by asked t) v place) (slot_Placeholder P)

  pub value_Component : (asked : Asked P C Q V H T E L) (side : Side P C Q V H T E L) (c : VComponent P C Q V H T E L) (place : Place)
      → value_seen asked side (values.Component c) place ≡ child_seen asked side place
  unfolding value_seen child_seen
  value_Component asked side c place = ap (λ v. slot_view (side_of side) (λ t. seen_by asked t) v place) (slot_Component c)

  pub value_none : (asked : Asked P C Q V H T E L) (side : Side P C Q V H T E L) (trees : List (VNode P C Q V H T E L)) (place : Place) → trees ≡ []
      → value_seen asked side (values.Fragment trees) place ≡ Node (number_in side place an_empty_fragment) DocPlaceholder Empty Empty
  unfolding value_seen
  value_none asked side trees place none =
      ap (λ v. slot_view (side_of side) (λ t. seen_by asked t) v place) (slot_Fragment trees) ∙
      ap (λ ts. slot_view (side_of side) (λ t. seen_by asked t) (fragment_slot (trees_from (map tree_of ts))) place) none

  pub items_are : (asked : Asked P C Q V H T E L) (side : Side P C Q V H T E L) (first i : ℕ) (place : Place) (trees : List (VNode P C Q V H T E L))
      → items_seen asked side first i place trees ≡ view.items_view (side_of side) (λ t. seen_by asked t) (first + i) place (trees_from (map tree_of trees))
  unfolding tree_seen
  items_are asked side first i place [] = refl
  items_are asked side first i place (tree ∷ trees) =
      ap (λ f. join_rows (tree_seen asked side tree (place ++ item (first + i) ∷ [])) f)
      (items_are asked side first (i + 1) place trees ∙
      ap (λ m. view.items_view (side_of side) (λ t. seen_by asked t) m place (trees_from (map tree_of trees))) (let e : first + (i + 1) ≡ first + i + 1 = omega arith in e))

  pub value_some : (asked : Asked P C Q V H T E L) (side : Side P C Q V H T E L) (trees : List (VNode P C Q V H T E L)) (place : Place) → trees ≢ []
      → value_seen asked side (values.Fragment trees) place ≡ items_seen asked side 0 0 place trees
  unfolding value_seen
  value_some asked side [] place some = absurd (some refl)
  value_some asked side (tree ∷ trees) place some =
      ap (λ v. slot_view (side_of side) (λ t. seen_by asked t) v place) (slot_Fragment (tree ∷ trees)) ∙ sym (items_are asked side 0 0 place (tree ∷ trees))

  -- nodes of a template

  abbrev given_of : VNode P C Q V H T E L → List (List (model.Attribute (types C Q V H T E L)))
  given_of tree = map (map attribute_of) tree.dynamic_attrs

  abbrev slot_in : Asked P C Q V H T E L → Side P C Q V H T E L → VNode P C Q V H T E L → ℕ → Place → Forest
  slot_in asked side tree k place = slots_view (side_of side) (λ t. seen_by asked t) (slots_from (map slot_of tree.dynamic_nodes)) k place

  abbrev nodes_in : Asked P C Q V H T E L → Side P C Q V H T E L → VNode P C Q V H T E L → Place → List ℕ → ℕ → TemplateNodes → Forest
  nodes_in asked side tree above up i ns =
      nodes_view (side_of side).numbers (template_of tree.template) above (given_of tree) (λ k place. slot_in asked side tree k place) up i ns

  first_seen : (asked : Asked P C Q V H T E L) (side : Side P C Q V H T E L) (tree : VNode P C Q V H T E L) (above : Place) (up : List ℕ) (i : ℕ) (node : TemplateNode) (rest : TemplateNodes)
      → nodes_in asked side tree above up i (node_before node rest) ≡ join_rows (node_seen asked side tree above up i node) (nodes_in asked side tree above up (i + 1) rest)
  unfolding node_seen
  first_seen asked side tree above up i node rest =
      ap (λ ns. nodes_in asked side tree above up i ns) (before_out node rest) ∙
      level_seen (side_of side).numbers (template_of tree.template) above (given_of tree) (λ k place. slot_in asked side tree k place) (below (out-TemplateNode node)) up i rest ∙
      ap (λ ns. join_rows (nodes_in asked side tree above up i ns) (nodes_in asked side tree above up (i + 1) rest)) (sym (before_out node no_nodes))

  row_is : (asked : Asked P C Q V H T E L) (side : Side P C Q V H T E L) (tree : VNode P C Q V H T E L) (above : Place) (up : List ℕ) (i : ℕ) (row : List TemplateNode)
      → row_seen asked side tree above up i row ≡ nodes_in asked side tree above up i (nodes_of row)
  row_is asked side tree above up i [] = refl
  row_is asked side tree above up i (node ∷ row) =
      ap (λ f. join_rows (node_seen asked side tree above up i node) f) (row_is asked side tree above up (i + 1) row) ∙
      sym (first_seen asked side tree above up i node (nodes_of row))

  pub tree_row : (asked : Asked P C Q V H T E L) (side : Side P C Q V H T E L) (tree : VNode P C Q V H T E L) (above : Place)
      → tree_seen asked side tree above ≡ row_seen asked side tree above [] 0 tree.template.roots
  unfolding tree_seen
  tree_row asked side tree above =
      ap (λ t. tree_view (side_of side) (λ t. seen_by asked t) above t) (tree_out tree) ∙ sym (row_is asked side tree above [] 0 tree.template.roots)

  pub node_Element : (asked : Asked P C Q V H T E L) (side : Side P C Q V H T E L) (tree : VNode P C Q V H T E L) (above : Place) (up : List ℕ) (i : ℕ)
      (tag : List ℕ) (namespace : Option (List ℕ)) (attrs : List TemplateAttribute) (children : List TemplateNode)
      → node_seen asked side tree above up i (nodes.Element tag namespace attrs children)
      ≡ Node (number_in side (at_path (template_of tree.template) above (up ++ i ∷ [])) an_element)
      (DocElement tag namespace (with_entries tree.dynamic_attrs [] attrs) (with_all_listeners tree.dynamic_attrs [] attrs))
      (row_seen asked side tree above (up ++ i ∷ []) 0 children) Empty
  unfolding node_seen
  node_Element asked side tree above up i tag namespace attrs children =
      ap (λ ns. nodes_in asked side tree above up i ns) (before_Element tag namespace attrs children no_nodes) ∙
      (λ k. Node (number_in side (at_path (template_of tree.template) above (up ++ i ∷ [])) an_element)
      (DocElement tag namespace (sym (entries_are tree.dynamic_attrs [] attrs) k) (sym (listeners_are tree.dynamic_attrs [] attrs) k))
      (sym (row_is asked side tree above (up ++ i ∷ []) 0 children) k) Empty)

  pub node_Text : (asked : Asked P C Q V H T E L) (side : Side P C Q V H T E L) (tree : VNode P C Q V H T E L) (above : Place) (up : List ℕ) (i : ℕ) (text : List ℕ)
      → node_seen asked side tree above up i (nodes.Text text)
      ≡ Node (number_in side (at_path (template_of tree.template) above (up ++ i ∷ [])) a_static_text) (DocText text) Empty Empty
  unfolding node_seen
  node_Text asked side tree above up i text = ap (λ ns. nodes_in asked side tree above up i ns) (before_Text text no_nodes)

  slot_there : (asked : Asked P C Q V H T E L) (side : Side P C Q V H T E L) (vs : List (DynamicNode P C Q V H T E L)) (k : ℕ) (value : DynamicNode P C Q V H T E L) (place : Place)
      → slice_get vs k ≡ Some value
      → slots_view (side_of side) (λ t. seen_by asked t) (slots_from (map slot_of vs)) k place ≡ slot_view (side_of side) (λ t. seen_by asked t) (slot_of value) place
  slot_there asked side [] k value place h = cc
  slot_there asked side (v ∷ vs) zero value place h = ap (λ x. slot_view (side_of side) (λ t. seen_by asked t) (slot_of x) place) (let e : v ≡ value = cc in e)
  slot_there asked side (v ∷ vs) (suc k) value place h = slot_there asked side vs k value place h

  slot_absent : (asked : Asked P C Q V H T E L) (side : Side P C Q V H T E L) (vs : List (DynamicNode P C Q V H T E L)) (k : ℕ) (place : Place)
      → slice_get vs k ≡ None → slots_view (side_of side) (λ t. seen_by asked t) (slots_from (map slot_of vs)) k place ≡ Empty
  slot_absent asked side [] k place h = refl
  slot_absent asked side (v ∷ vs) zero place h = cc
  slot_absent asked side (v ∷ vs) (suc k) place h = slot_absent asked side vs k place h

  pub node_Slot : (asked : Asked P C Q V H T E L) (side : Side P C Q V H T E L) (tree : VNode P C Q V H T E L) (above : Place) (up : List ℕ) (i id : ℕ) (value : DynamicNode P C Q V H T E L)
      → slice_get tree.dynamic_nodes id ≡ Some value
      → node_seen asked side tree above up i (nodes.Dynamic id) ≡ value_seen asked side value (at_path (template_of tree.template) above (up ++ i ∷ []))
  unfolding node_seen value_seen
  node_Slot asked side tree above up i id value h =
      let place : Place = at_path (template_of tree.template) above (up ++ i ∷ []) in
      ap (λ ns. nodes_in asked side tree above up i ns) (before_Dynamic id no_nodes) ∙ join-empty (slot_in asked side tree id place) ∙
      slot_there asked side tree.dynamic_nodes id value place h

  pub node_no_Slot : (asked : Asked P C Q V H T E L) (side : Side P C Q V H T E L) (tree : VNode P C Q V H T E L) (above : Place) (up : List ℕ) (i id : ℕ)
      → slice_get tree.dynamic_nodes id ≡ None → node_seen asked side tree above up i (nodes.Dynamic id) ≡ Empty
  unfolding node_seen
  node_no_Slot asked side tree above up i id h =
      let place : Place = at_path (template_of tree.template) above (up ++ i ∷ []) in
      ap (λ ns. nodes_in asked side tree above up i ns) (before_Dynamic id no_nodes) ∙ join-empty (slot_in asked side tree id place) ∙
      slot_absent asked side tree.dynamic_nodes id place h

-- nodes after none
pub after_none : (row : List DocNode) (f : Forest) → row ≡ [] → join_rows (forest_of row) f ≡ f
after_none row f none = ap (λ (ns : List DocNode). join_rows (forest_of ns) f) none

module _ {P C Q V H T E L : Type 0} (asked : Asked P C Q V H T E L) (side : Side P C Q V H T E L) where
  module _ (tree : VNode P C Q V H T E L) (above : Place) (up : List ℕ) (row : List TemplateNode) where
    -- one more node of a row is seen
    pub row_more : (i : ℕ) (node : TemplateNode) (before after whole : Forest) → i < length row → node ≡ get_or row i node
        → join_rows before (row_seen asked side tree above up i (drop i row)) ≡ whole
        → after ≡ join_rows before (node_seen asked side tree above up i node)
        → join_rows after (row_seen asked side tree above up (i + 1) (drop (i + 1) row)) ≡ whole
    row_more i node before after whole low is so_far one =
        let rest : Forest = row_seen asked side tree above up (i + 1) (drop (i + 1) row) in
        ap (λ f. join_rows f rest) one ∙
        join-join before (node_seen asked side tree above up i node) rest ∙
        ap (λ nodes. join_rows before (row_seen asked side tree above up i nodes)) (sym (next_drop row i node low is)) ∙ so_far

    -- the whole row is seen
    pub row_done : (i : ℕ) (all whole : Forest) → length row ≤ i → join_rows all (row_seen asked side tree above up i (drop i row)) ≡ whole → all ≡ whole
    row_done i all whole end so_far =
        sym (join-empty all) ∙ ap (λ nodes. join_rows all (row_seen asked side tree above up i nodes)) (sym (drop_of_length-le row end)) ∙ so_far

  module _ (first : ℕ) (place : Place) (trees : List (VNode P C Q V H T E L)) where
    -- one more item is seen
    pub items_more : (i : ℕ) (tree : VNode P C Q V H T E L) (at_item : Place) (position : ℕ) (before after whole : Forest)
        → i < length trees → tree ≡ get_or trees i tree
        → join_rows before (items_seen asked side first i place (drop i trees)) ≡ whole
        → at_item ≡ place ++ item position ∷ [] → position ≡ first + i
        → after ≡ join_rows before (tree_seen asked side tree at_item)
        → join_rows after (items_seen asked side first (i + 1) place (drop (i + 1) trees)) ≡ whole
    items_more i tree at_item position before after whole low is so_far at_place at_position one =
        let rest : Forest = items_seen asked side first (i + 1) place (drop (i + 1) trees) in
        ap (λ f. join_rows f rest)
        (one ∙ ap (λ p. join_rows before (tree_seen asked side tree p)) (at_place ∙ ap (λ m. place ++ item m ∷ []) at_position)) ∙
        join-join before (tree_seen asked side tree (place ++ item (first + i) ∷ [])) rest ∙
        ap (λ ts. join_rows before (items_seen asked side first i place ts)) (sym (next_drop trees i tree low is)) ∙ so_far

    -- all items are seen
    pub items_done : (i : ℕ) (all whole : Forest) → length trees ≤ i → join_rows all (items_seen asked side first i place (drop i trees)) ≡ whole → all ≡ whole
    items_done i all whole end so_far =
        sym (join-empty all) ∙ ap (λ ts. join_rows all (items_seen asked side first i place ts)) (sym (drop_of_length-le trees end)) ∙ so_far

pub ruleset views = (asked_look, scope_out, scope_none, scope_some, side_none, side_some, child_none, child_some, value_Text, value_Placeholder, value_Component, value_none, value_some, tree_row, node_Element, node_Text, node_Slot, node_no_Slot, below_Element, below_Text, below_Placeholder, content_Element, content_Text, content_Placeholder, forest-append, join-empty, join-join, after_none, on_Root, on_Inside, on_Item, path_Top, path_Below)
