-- The spots of a tree, each part as one word.
use Rattle.std.specs.Prelude.{ℕ, ◌+◌, List, [], ◌∷◌, ◌++◌, map}
use Rattle.tree_nodes.specs.declared.vnode.VNode.{VNode}
use Rattle.tree_nodes.specs.declared.vnode.DynamicNode.{DynamicNode}
use Rattle.rt_model.specs.OneLog.{types}
use Rattle.rt_model.specs.Tree as model
use Rattle.rt_model.specs.Tree.{Template, Place, Spot, node_at, an_element, a_static_text}
use Rattle.tree_mirror.specs.Mirror.{slots_from}
use Rattle.tree_mirror.specs.Sealed.{template_of, tree_of, slot_of}
use Rattle.run_places.specs.declared.piece.Piece.{Piece}
use Rattle.run_places.specs.Places.{at_path}
use Rattle.run_places.specs.Pieces.{Met, met_element, met_text, met_slot, piece_of}

module _ {K : model.Types} where
  -- the spots of one thing that is met, where slot gives those of a numbered slot at a place
  abbrev pub met_spots : Template → Place → (ℕ → Place → List (Spot K)) → Met → List (Spot K)
  met_spots whole above slot (met_element path attributes) = node_at (at_path whole above path) an_element ∷ []
  met_spots whole above slot (met_text path) = node_at (at_path whole above path) a_static_text ∷ []
  met_spots whole above slot (met_slot k path) = slot k (at_path whole above path)

  -- the spots of all that is met
  abbrev pub all_met_spots : Template → Place → (ℕ → Place → List (Spot K)) → List Met → List (Spot K)
  all_met_spots whole above slot [] = []
  all_met_spots whole above slot (m ∷ ms) = met_spots whole above slot m ++ all_met_spots whole above slot ms

module _ {P C Q V H T E L : Type 0} where
  -- the spots of a tree at a place
  unfoldable pub tree_spots : Place → VNode P C Q V H T E L → List (Spot (types C Q V H T E L))
  tree_spots above tree = model.spots above (tree_of tree)

  -- the spots of what stands in a slot at a place
  unfoldable pub value_spots : DynamicNode P C Q V H T E L → Place → List (Spot (types C Q V H T E L))
  value_spots value place = model.slot_spots (slot_of value) place

  -- the spots of a fragment's items, from a position on
  abbrev pub items_spots : ℕ → Place → List (VNode P C Q V H T E L) → List (Spot (types C Q V H T E L))
  items_spots i place [] = []
  items_spots i place (tree ∷ trees) = tree_spots (place ++ model.item i ∷ []) tree ++ items_spots (i + 1) place trees

  -- the spots of a piece of a tree's template
  unfoldable pub piece_spots : Place → VNode P C Q V H T E L → Piece → List (Spot (types C Q V H T E L))
  piece_spots above tree piece =
      met_spots (template_of tree.template) above (λ k place. model.slots_spots (slots_from (map slot_of tree.dynamic_nodes)) k place)
      (piece_of piece)

  -- the spots of several pieces
  abbrev pub pieces_spots : Place → VNode P C Q V H T E L → List Piece → List (Spot (types C Q V H T E L))
  pieces_spots above tree [] = []
  pieces_spots above tree (piece ∷ pieces) = piece_spots above tree piece ++ pieces_spots above tree pieces
