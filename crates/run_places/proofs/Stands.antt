-- What stands in a tree, part by part.
use Rattle.std.proofs.Common.{ℕ, zero, suc, ◌+◌, List, [], ◌∷◌, ◌++◌, ◌≡◌, ◌≢◌, refl, sym, ap, ◌∙◌, map}
use Rattle.std.specs.Prelude.{Some, None, slice_get}
use Rattle.tree_nodes.specs.declared.vnode.DynamicNode.{DynamicNode}
use Rattle.tree_nodes.specs.declared.vnode.DynamicNode.TheVariants as values
use Rattle.tree_nodes.specs.declared.vnode.VComponent.{VComponent}
use Rattle.tree_nodes.specs.declared.vnode.VNode.{VNode}
use Rattle.tree_nodes.specs.declared.template.TemplateAttribute.{TemplateAttribute}
use Rattle.rt_model.specs.OneLog.{types}
use Rattle.rt_model.specs.Tree as model
use Rattle.rt_model.specs.Tree.{fragment_slot, Place, item, node_at, component_at, an_element, a_static_text, a_text, a_placeholder, an_empty_fragment, slots_spots, slot_spots}
use Rattle.tree_mirror.specs.Mirror.{slots_from, trees_from}
use Rattle.tree_mirror.specs.Sealed.{nodes_of, template_of, tree_of, slot_of, component_of}
use Rattle.tree_mirror.proofs.SealedTrees.{tree_out, slot_Text, slot_Placeholder, slot_Component, slot_Fragment}
use Rattle.run_places.specs.declared.place.Step.{Step}
use Rattle.run_places.specs.declared.piece.Piece.{Piece}
use Rattle.run_places.specs.declared.piece.Piece.TheVariants as pieces
use Rattle.run_places.specs.declared.spot.Spot.{Spot}
use Rattle.run_places.specs.Places.{at_path, step_of, spot_of}
use Rattle.run_places.specs.Pieces.{piece_of, row_met}
use Rattle.run_places.specs.Spots.{all_met_spots, tree_spots, value_spots, items_spots, piece_spots, pieces_spots}
use Rattle.run_places.proofs.Walks.{nil-right, row_is, spots_by_pieces}

-- places one after another
pub places-append : (a b : List Step) → map step_of (a ++ b) ≡ map step_of a ++ map step_of b
places-append [] b = refl
places-append (x ∷ a) b = ap (λ xs. step_of x ∷ xs) (places-append a b)

pub ruleset appended = (places-append)

-- those that name no type of the trees' own
module _ {C Q V H T E L : Type 0} (P : Type 0) where
  pub value_Text : (text : List ℕ) (place : Place) → value_spots {P = P} {C = C} {Q = Q} {V = V} {H = H} {T = T} {E = E} {L = L} (values.Text text) place ≡ node_at place a_text ∷ []
  unfolding value_spots
  value_Text text place = ap (λ v. slot_spots v place) (slot_Text P text)

  pub value_Placeholder : (place : Place) → value_spots {P = P} {C = C} {Q = Q} {V = V} {H = H} {T = T} {E = E} {L = L} values.Placeholder place ≡ node_at place a_placeholder ∷ []
  unfolding value_spots
  value_Placeholder place = ap (λ v. slot_spots v place) (slot_Placeholder P)

module _ {P C Q V H T E L : Type 0} where
  pub value_Component : (c : VComponent P C Q V H T E L) (place : Place) → value_spots (values.Component c) place ≡ component_at place (component_of c) ∷ []
  unfolding value_spots
  value_Component c place = ap (λ v. slot_spots v place) (slot_Component c)

  pub value_none : (trees : List (VNode P C Q V H T E L)) (place : Place) → trees ≡ [] → value_spots (values.Fragment trees) place ≡ node_at place an_empty_fragment ∷ []
  unfolding value_spots
  value_none trees place none =
      ap (λ v. slot_spots v place) (slot_Fragment trees) ∙ ap (λ ts. slot_spots (fragment_slot (trees_from (map tree_of ts))) place) none

  items_are : (i : ℕ) (place : Place) (trees : List (VNode P C Q V H T E L)) → items_spots i place trees ≡ model.item_spots i place (trees_from (map tree_of trees))
  unfolding tree_spots
  items_are i place [] = refl
  items_are i place (tree ∷ trees) = ap (λ xs. tree_spots (place ++ item i ∷ []) tree ++ xs) (items_are (i + 1) place trees)

  pub value_some : (trees : List (VNode P C Q V H T E L)) (place : Place) → trees ≢ [] → value_spots (values.Fragment trees) place ≡ items_spots 0 place trees
  unfolding value_spots
  value_some [] place some = absurd (some refl)
  value_some (tree ∷ trees) place some = ap (λ v. slot_spots v place) (slot_Fragment (tree ∷ trees)) ∙ sym (items_are 0 place (tree ∷ trees))

  -- pieces

  pub piece_Element : (above : Place) (tree : VNode P C Q V H T E L) (path : List ℕ) (attrs : List TemplateAttribute)
      → piece_spots above tree (pieces.Element path attrs) ≡ node_at (at_path (template_of tree.template) above path) an_element ∷ []
  unfolding piece_spots
  piece_Element above tree path attrs = refl

  pub piece_Text : (above : Place) (tree : VNode P C Q V H T E L) (path : List ℕ)
      → piece_spots above tree (pieces.Text path) ≡ node_at (at_path (template_of tree.template) above path) a_static_text ∷ []
  unfolding piece_spots
  piece_Text above tree path = refl

  pub slot_there : (vs : List (DynamicNode P C Q V H T E L)) (k : ℕ) (value : DynamicNode P C Q V H T E L) (place : Place)
      → slice_get vs k ≡ Some value → slots_spots (slots_from (map slot_of vs)) k place ≡ slot_spots (slot_of value) place
  slot_there [] k value place h = cc
  slot_there (v ∷ vs) zero value place h = ap (λ x. slot_spots (slot_of x) place) (let e : v ≡ value = cc in e)
  slot_there (v ∷ vs) (suc k) value place h = slot_there vs k value place h

  pub slot_absent : (vs : List (DynamicNode P C Q V H T E L)) (k : ℕ) (place : Place) → slice_get vs k ≡ None → slots_spots (slots_from (map slot_of vs)) k place ≡ []
  slot_absent [] k place h = refl
  slot_absent (v ∷ vs) zero place h = cc
  slot_absent (v ∷ vs) (suc k) place h = slot_absent vs k place h

  pub piece_Slot : (above : Place) (tree : VNode P C Q V H T E L) (id : ℕ) (path : List ℕ) (value : DynamicNode P C Q V H T E L)
      → slice_get tree.dynamic_nodes id ≡ Some value
      → piece_spots above tree (pieces.Slot id path) ≡ value_spots value (at_path (template_of tree.template) above path)
  unfolding piece_spots value_spots
  piece_Slot above tree id path value h = slot_there tree.dynamic_nodes id value (at_path (template_of tree.template) above path) h

  pub piece_no_Slot : (above : Place) (tree : VNode P C Q V H T E L) (id : ℕ) (path : List ℕ)
      → slice_get tree.dynamic_nodes id ≡ None → piece_spots above tree (pieces.Slot id path) ≡ []
  unfolding piece_spots
  piece_no_Slot above tree id path h = slot_absent tree.dynamic_nodes id (at_path (template_of tree.template) above path) h

  -- a tree's spots are those of its template's pieces, however they were found

  pieces_are : (above : Place) (tree : VNode P C Q V H T E L) (ps : List Piece)
      → pieces_spots above tree ps ≡ all_met_spots (template_of tree.template) above (λ k place. slots_spots (slots_from (map slot_of tree.dynamic_nodes)) k place) (map piece_of ps)
  unfolding piece_spots
  pieces_are above tree [] = refl
  pieces_are above tree (p ∷ ps) = ap (λ xs. piece_spots above tree p ++ xs) (pieces_are above tree ps)

  pub spots_out : (above : Place) (tree : VNode P C Q V H T E L) (ps : List Piece)
      → map piece_of ps ≡ row_met [] 0 tree.template.roots → pieces_spots above tree ps ≡ tree_spots above tree
  unfolding tree_spots
  spots_out above tree ps h =
      let inner : ℕ → Place → List (model.Spot (types C Q V H T E L)) = λ k place. slots_spots (slots_from (map slot_of tree.dynamic_nodes)) k place in
      pieces_are above tree ps ∙
      ap (λ ms. all_met_spots (template_of tree.template) above inner ms) (h ∙ row_is [] 0 tree.template.roots) ∙
      sym (spots_by_pieces (template_of tree.template) above inner [] 0 (nodes_of tree.template.roots)) ∙
      sym (ap (λ t. model.spots above t) (tree_out tree))

  pub spots-append : (a b : List (Spot P C Q V H T E L)) → map spot_of (a ++ b) ≡ map spot_of a ++ map spot_of b
  spots-append [] b = refl
  spots-append (x ∷ a) b = ap (λ xs. spot_of x ∷ xs) (spots-append a b)

pub ruleset stands = (spots_out, piece_Element, piece_Text, piece_Slot, piece_no_Slot, value_Text, value_Placeholder, value_Component, value_none, value_some, spots-append, nil-right)
