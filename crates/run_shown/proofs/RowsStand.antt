-- Where the nodes of a tree stand, node by node of its template.
use Rattle.std.proofs.Common.{ℕ, ◌+◌, ◌<◌, ◌≤◌, List, [], ◌∷◌, ◌++◌, ◌≡◌, length, get_or, drop, map, refl, sym, ap, ◌∙◌, append-nil}
use Rattle.std.specs.Prelude.{Option, Some, slice_get}
use Rattle.std.proofs.Math.ListN.{drop_of_length-le}
use Rattle.tree_nodes.specs.declared.template.TemplateAttribute.{TemplateAttribute}
use Rattle.tree_nodes.specs.declared.template.TemplateNode.{TemplateNode}
use Rattle.tree_nodes.specs.declared.template.TemplateNode.TheVariants as nodes
use Rattle.tree_nodes.specs.declared.template.TemplateNode.TheOpen.{TemplateNode-F}
use Rattle.tree_nodes.specs.declared.template.TemplateNode.TheViews.{out-TemplateNode}
use Rattle.tree_nodes.specs.declared.vnode.DynamicNode.{DynamicNode}
use Rattle.tree_nodes.specs.declared.vnode.VNode.{VNode}
use Rattle.rt_model.specs.OneLog.{types}
use Rattle.rt_model.specs.Tree as model
use Rattle.rt_model.specs.Tree.{TemplateNodes, no_nodes, Template, Place, Spot, node_at, node_spots, place_in, slots_spots, an_element, a_static_text}
use Rattle.tree_mirror.specs.Mirror.{all_before, before_step, slots_from}
use Rattle.tree_mirror.specs.Sealed.{node_before, nodes_of, slot_of, template_of}
use Rattle.tree_mirror.proofs.SealedNodes.{below, before_out, before_Element, before_Text, before_Dynamic}
use Rattle.tree_mirror.proofs.SealedTrees.{tree_out}
use Rattle.run_places.specs.Places.{at_path}
use Rattle.run_places.specs.Spots.{tree_spots, value_spots}
use Rattle.run_places.proofs.Stands.{slot_there}
use Rattle.run_shown.specs.Still.{node_stands, row_stands}
use Rattle.run_shown.proofs.OneByOne.{next_drop}

module _ {K : model.Types} (whole : Template) (above : Place) (slot : ℕ → Place → List (Spot K)) where
  -- one level before others: what stands in it, then what stands in them
  level_spots : (y : TemplateNode-F (TemplateNodes → TemplateNodes)) (up : List ℕ) (i : ℕ) (rest : TemplateNodes)
      → node_spots whole above slot up i (before_step y rest)
      ≡ node_spots whole above slot up i (before_step y no_nodes) ++ node_spots whole above slot up (i + 1) rest
  level_spots (TemplateNode-F.Element tag namespace attrs children) up i rest =
      let under : List (Spot K) = node_spots whole above slot (up ++ i ∷ []) 0 (all_before children no_nodes) in
      let later : List (Spot K) = node_spots whole above slot up (i + 1) rest in
      ap (λ (xs : List (Spot K)). node_at (place_in whole above up i) an_element ∷ (xs ++ later)) (sym (append-nil under))
  level_spots (TemplateNode-F.Text text) up i rest = refl
  level_spots (TemplateNode-F.Dynamic id) up i rest =
      ap (λ (xs : List (Spot K)). xs ++ node_spots whole above slot up (i + 1) rest) (sym (append-nil (slot id (place_in whole above up i))))

  -- a node before others
  first_spots : (up : List ℕ) (i : ℕ) (n : TemplateNode) (rest : TemplateNodes)
      → node_spots whole above slot up i (node_before n rest)
      ≡ node_spots whole above slot up i (node_before n no_nodes) ++ node_spots whole above slot up (i + 1) rest
  first_spots up i n rest =
      ap (λ ns. node_spots whole above slot up i ns) (before_out n rest)
      ∙ level_spots (below (out-TemplateNode n)) up i rest
      ∙ ap (λ ns. node_spots whole above slot up i ns ++ node_spots whole above slot up (i + 1) rest) (sym (before_out n no_nodes))

module _ {P C Q V H T E L : Type 0} (tree : VNode P C Q V H T E L) (above : Place) where
  abbrev spots_in : ℕ → Place → List (Spot (types C Q V H T E L))
  spots_in k place = slots_spots (slots_from (map slot_of tree.dynamic_nodes)) k place

  row_is : (up : List ℕ) (i : ℕ) (row : List TemplateNode)
      → row_stands tree above up i row ≡ node_spots (template_of tree.template) above (λ k place. spots_in k place) up i (nodes_of row)
  unfolding node_stands
  row_is up i [] = refl
  row_is up i (node ∷ row) =
      ap (λ es. node_stands tree above up i node ++ es) (row_is up (i + 1) row)
      ∙ sym (first_spots (template_of tree.template) above (λ k place. spots_in k place) up i node (nodes_of row))

  -- those of a tree are those of the row at its top
  pub tree_row : tree_spots above tree ≡ row_stands tree above [] 0 tree.template.roots
  unfolding tree_spots
  tree_row = ap (λ t. model.spots above t) (tree_out tree) ∙ sym (row_is [] 0 tree.template.roots)

  -- those of a row are those of one node after another
  pub row_parts : (up : List ℕ) (row : List TemplateNode) (i : ℕ) (node : TemplateNode) → i < length row → node ≡ get_or row i node
      → row_stands tree above up i (drop i row) ≡ node_stands tree above up i node ++ row_stands tree above up (i + 1) (drop (i + 1) row)
  row_parts up row i node low is = ap (λ ns. row_stands tree above up i ns) (next_drop row i node low is)

  pub row_over : (up : List ℕ) (row : List TemplateNode) (i : ℕ) → length row ≤ i → row_stands tree above up i (drop i row) ≡ []
  row_over up row i end = ap (λ ns. row_stands tree above up i ns) (drop_of_length-le row end)

  -- an element comes before its children
  pub node_Element : (up : List ℕ) (i : ℕ) (tag : List ℕ) (namespace : Option (List ℕ)) (attrs : List TemplateAttribute) (children : List TemplateNode)
      → node_stands tree above up i (nodes.Element tag namespace attrs children)
      ≡ node_at (at_path (template_of tree.template) above (up ++ i ∷ [])) an_element ∷ row_stands tree above (up ++ i ∷ []) 0 children
  unfolding node_stands
  node_Element up i tag namespace attrs children =
      let under : TemplateNodes → List (Spot (types C Q V H T E L)) = λ ns. node_spots (template_of tree.template) above (λ k place. spots_in k place) (up ++ i ∷ []) 0 ns in
      ap (λ ns. node_spots (template_of tree.template) above (λ k place. spots_in k place) up i ns) (before_Element tag namespace attrs children no_nodes)
      ∙ ap (λ (xs : List (Spot (types C Q V H T E L))). node_at (place_in (template_of tree.template) above up i) an_element ∷ xs)
      (append-nil (under (nodes_of children)) ∙ sym (row_is (up ++ i ∷ []) 0 children))

  pub node_Text : (up : List ℕ) (i : ℕ) (text : List ℕ)
      → node_stands tree above up i (nodes.Text text) ≡ node_at (at_path (template_of tree.template) above (up ++ i ∷ [])) a_static_text ∷ []
  unfolding node_stands
  node_Text up i text = ap (λ ns. node_spots (template_of tree.template) above (λ k place. spots_in k place) up i ns) (before_Text text no_nodes)

  -- a slot shows its value
  pub node_Slot : (up : List ℕ) (i id : ℕ) (value : DynamicNode P C Q V H T E L)
      → slice_get tree.dynamic_nodes id ≡ Some value → node_stands tree above up i (nodes.Dynamic id) ≡ value_spots value (at_path (template_of tree.template) above (up ++ i ∷ []))
  unfolding node_stands value_spots
  node_Slot up i id value h =
      ap (λ ns. node_spots (template_of tree.template) above (λ k place. spots_in k place) up i ns) (before_Dynamic id no_nodes)
      ∙ append-nil (spots_in id (place_in (template_of tree.template) above up i))
      ∙ slot_there tree.dynamic_nodes id value (at_path (template_of tree.template) above (up ++ i ∷ [])) h
