-- The numbers at the top of what shows are those of what stands there.
use Rattle.std.proofs.Common.{ℕ, zero, suc, ◌+◌, ◌-◌, ◌<◌, ◌≤◌, List, [], ◌∷◌, ◌++◌, ◌≡◌, ◌≢◌, refl, sym, ap, ◌∙◌, length, map, drop, drop-cons, slice_index_or, arith}
use Rattle.std.proofs.Math.ListN.{drop_of_length-le}
use Rattle.std.proofs.lemmas.List.{append_assoc}
use Rattle.std.specs.Prelude.{Option, Some, None}
use Rattle.std.specs.Borrow.{Bor}
use Rattle.tree_nodes.specs.declared.vnode.DynamicNode.{DynamicNode}
use Rattle.tree_nodes.specs.declared.vnode.VNode.{VNode}
use Rattle.rt_model.specs.Caused as caused
use Rattle.rt_model.specs.Document.{Empty, Forest, Node, RemoveNode, ReplaceNodeWith, join_rows}
use Rattle.rt_model.specs.Heard.{number_at}
use Rattle.rt_model.specs.Run.{child_at}
use Rattle.rt_model.specs.State as state
use Rattle.rt_model.specs.Tree.{Types, Attribute, TemplateNodes, no_nodes, element_node, text_node, slot_node, Template, Tree, block, Slots, no_slots, more_slots, Slot, text_slot, placeholder_slot, component_slot, fragment_slot, Trees, no_trees, more_trees, Place, Kind, an_element, a_static_text, item, place_in}
use Rattle.rt_model.specs.View.{child_view, nodes_view, tree_view, slots_view, slot_view, items_view}
use Rattle.tree_mirror.specs.Mirror.{trees_from}
use Rattle.tree_mirror.specs.Sealed.{slot_of, tree_of}
use Rattle.run_places.specs.declared.side.Side.{Side}
use Rattle.run_places.specs.Places.{side_of}
use Rattle.run_places.proofs.Trails.{on_Root}
use Rattle.run_shown.specs.declared.asked.Asked.{Asked}
use Rattle.run_shown.specs.declared.asked.Asked.TheVariants as asks
use Rattle.run_shown.specs.declared.look.Look.{Look}
use Rattle.run_shown.specs.declared.pieces.Top.{Top}
use Rattle.run_shown.specs.declared.pieces.Top.TheVariants as top
use Rattle.run_shown.specs.Pieces.{child_top, items_pieces, items_tops, nodes_tops, side_pieces, slot_tops, slots_tops, tops_by, tree_pieces, tree_tops, value_pieces}
use Rattle.run_shown.specs.Look.{look_shown}
use Rattle.run_shown.specs.Seen.{items_seen, scope_seen, seen_by, side_seen, tree_seen, value_seen}
use Rattle.run_shown.specs.Tops.{removed, replaced, tops_of}
use Rattle.run_shown.proofs.OneByOne.{nil-right}
use Rattle.run_shown.proofs.PieceRows as piece
use Rattle.run_shown.proofs.Views.{items_are, scope_none, scope_out, scope_some, side_none, side_some}

-- rows one after another
pub tops-join : (f g : Forest) → tops_of (join_rows f g) ≡ tops_of f ++ tops_of g
tops-join Empty g = refl
tops-join (Node id content children rest) g = ap (λ ns. id ∷ ns) (tops-join rest g)

-- what is written of a row hangs on the numbers at its top alone
pub removed-is : (f : Forest) → removed (tops_of f) ≡ caused.removals f
removed-is Empty = refl
removed-is (Node id content children rest) = ap (λ es. RemoveNode id ∷ es) (removed-is rest)

pub replaced-is : (f g : Forest) → replaced (tops_of f) g ≡ caused.replaced_by f g
replaced-is Empty g = refl
replaced-is (Node id content children rest) g = ap (λ es. ReplaceNodeWith id g ∷ es) (removed-is rest)

module _ (inner : ℕ → Forest) where
  -- what stands at the top, one after another
  pub by-append : (ts us : List Top) → tops_by inner (ts ++ us) ≡ tops_by inner ts ++ tops_by inner us
  by-append [] us = refl
  by-append (top.Own n ∷ ts) us = ap (λ ns. n ∷ ns) (by-append ts us)
  by-append (top.Child t ∷ ts) us =
      ap (λ ns. tops_of (inner t) ++ ns) (by-append ts us) ∙ sym (append_assoc (tops_of (inner t)) (tops_by inner ts) (tops_by inner us))

  -- a row, and what stands at the top of it, in front of others
  both : (f g : Forest) (ts us : List Top) → tops_of f ≡ tops_by inner ts → tops_of g ≡ tops_by inner us → tops_of (join_rows f g) ≡ tops_by inner (ts ++ us)
  both f g ts us h k = tops-join f g ∙ (λ i. h i ++ k i) ∙ sym (by-append ts us)

  child_is : (o : Option ℕ) → tops_of (child_view inner o) ≡ tops_by inner (child_top o)
  child_is None = refl
  child_is (Some t) = sym (nil-right (tops_of (inner t)))

  module _ {K : Types} where
    nodes_are : (numbers : List (Place × Kind × ℕ)) (whole : Template) (above : Place) (given : List (List (Attribute K))) (slot : ℕ → Place → Forest) (tops : ℕ → Place → List Top)
        → ((k : ℕ) (place : Place) → tops_of (slot k place) ≡ tops_by inner (tops k place))
        → (up : List ℕ) (i : ℕ) (ns : TemplateNodes)
        → tops_of (nodes_view numbers whole above given slot up i ns) ≡ tops_by inner (nodes_tops numbers whole above tops up i ns)
    nodes_are numbers whole above given slot tops h up i no_nodes = refl
    nodes_are numbers whole above given slot tops h up i (element_node tag namespace attributes children rest) =
        ap (λ (ns : List ℕ). number_at numbers (place_in whole above up i) an_element ∷ ns) (nodes_are numbers whole above given slot tops h up (i + 1) rest)
    nodes_are numbers whole above given slot tops h up i (text_node text rest) =
        ap (λ (ns : List ℕ). number_at numbers (place_in whole above up i) a_static_text ∷ ns) (nodes_are numbers whole above given slot tops h up (i + 1) rest)
    nodes_are numbers whole above given slot tops h up i (slot_node k rest) =
        both (slot k (place_in whole above up i)) (nodes_view numbers whole above given slot up (i + 1) rest) (tops k (place_in whole above up i)) (nodes_tops numbers whole above tops up (i + 1) rest)
        (h k (place_in whole above up i)) (nodes_are numbers whole above given slot tops h up (i + 1) rest)

    mutual
      pub tree_is : (side : state.Side K) (above : Place) (tree : Tree K) → tops_of (tree_view side inner above tree) ≡ tops_by inner (tree_tops side above tree)
      tree_is side above (block template given slots) =
          nodes_are side.numbers template above given (λ k place. slots_view side inner slots k place) (λ k place. slots_tops side slots k place) (λ k place. slots_is side slots k place) [] 0 template.roots

      slots_is : (side : state.Side K) (slots : Slots K) (k : ℕ) (place : Place) → tops_of (slots_view side inner slots k place) ≡ tops_by inner (slots_tops side slots k place)
      slots_is side no_slots k place = refl
      slots_is side (more_slots v rest) zero place = slot_is side v place
      slots_is side (more_slots v rest) (suc k) place = slots_is side rest k place

      pub slot_is : (side : state.Side K) (value : Slot K) (place : Place) → tops_of (slot_view side inner value place) ≡ tops_by inner (slot_tops side value place)
      slot_is side (text_slot text) place = refl
      slot_is side placeholder_slot place = refl
      slot_is side (component_slot c) place = child_is (child_at side.children place)
      slot_is side (fragment_slot no_trees) place = refl
      slot_is side (fragment_slot (more_trees t ts)) place = items_is side 0 place (more_trees t ts)

      pub items_is : (side : state.Side K) (i : ℕ) (place : Place) (trees : Trees K) → tops_of (items_view side inner i place trees) ≡ tops_by inner (items_tops side i place trees)
      items_is side i place no_trees = refl
      items_is side i place (more_trees t ts) =
          both (tree_view side inner (place ++ item i ∷ []) t) (items_view side inner (i + 1) place ts) (tree_tops side (place ++ item i ∷ []) t) (items_tops side (i + 1) place ts)
          (tree_is side (place ++ item i ∷ []) t) (items_is side (i + 1) place ts)

-- of a side, by who is asked

module _ {P C Q V H T E L : Type 0} (asked : Asked P C Q V H T E L) (side : Side P C Q V H T E L) where
  pub tree_numbers : (tree : VNode P C Q V H T E L) (above : Place) → tops_of (tree_seen asked side tree above) ≡ tops_by (λ t. seen_by asked t) (tree_pieces side tree above)
  unfolding tree_seen tree_pieces
  tree_numbers tree above = tree_is (λ t. seen_by asked t) (side_of side) above (tree_of tree)

  pub value_numbers : (value : DynamicNode P C Q V H T E L) (place : Place) → tops_of (value_seen asked side value place) ≡ tops_by (λ t. seen_by asked t) (value_pieces side value place)
  unfolding value_seen value_pieces
  value_numbers value place = slot_is (λ t. seen_by asked t) (side_of side) (slot_of value) place

  pub items_numbers : (first : ℕ) (place : Place) (trees : List (VNode P C Q V H T E L)) → tops_of (items_seen asked side first 0 place trees) ≡ tops_by (λ t. seen_by asked t) (items_pieces side first 0 place trees)
  items_numbers first place trees =
      ap tops_of (items_are asked side first 0 place trees)
      ∙ items_is (λ t. seen_by asked t) (side_of side) (first + 0) place (trees_from (map tree_of trees))
      ∙ ap (λ ts. tops_by (λ t. seen_by asked t) ts) (sym (piece.items_are side first 0 place trees))

  pub side_numbers : tops_of (side_seen asked side) ≡ tops_by (λ t. seen_by asked t) (side_pieces side)
  side_numbers = by side.output refl
    where
      by : (o : Option (VNode P C Q V H T E L)) → side.output ≡ o → tops_of (side_seen asked side) ≡ tops_by (λ t. seen_by asked t) (side_pieces side)
      by None is = ap tops_of (side_none asked side is) ∙ sym (ap (λ ts. tops_by (λ t. seen_by asked t) ts) (piece.side_none side is))
      by (Some tree) is =
          ap tops_of (side_some asked side tree is)
          ∙ tree_numbers tree []
          ∙ sym (ap (λ ts. tops_by (λ t. seen_by asked t) ts) (piece.side_some side tree is))

module _ {P C Q V H T E L : Type 0} where
  -- a scope shows what stands at the top of its side, with child scopes as deep as is left
  pub scope_numbers : (look : Bor (Look P C Q V H T E L)) (n s : ℕ) (side : Side P C Q V H T E L) → n ≢ 0 → look_shown look.now s ≡ Some side
      → tops_of (scope_seen look.now n s) ≡ tops_by (λ t. scope_seen look.now (n - 1) t) (side_pieces side)
  unfolding scope_seen
  scope_numbers look n s side some shown = ap tops_of (scope_some look n s side some shown) ∙ side_numbers (asks.Look look (n - 1)) side

  -- what stands at the top, where a look is asked
  pub by_look : (look : Bor (Look P C Q V H T E L)) (n : ℕ) (pieces : List Top) (before : List ℕ) → before ≡ []
      → before ++ tops_by (λ t. scope_seen look.now n t) pieces ≡ tops_by (λ t. seen_by (asks.Look look n) t) pieces
  unfolding scope_seen
  by_look look n pieces before none = ap (λ (ns : List ℕ). ns ++ tops_by (λ t. scope_seen look.now n t) pieces) none

module _ (inner : ℕ → Forest) (pieces : List Top) (i : ℕ) (d : Top) (before whole : List ℕ) where
  -- one more of what stands at the top
  pub tops_more : (after : List ℕ) → i < length pieces → before ++ tops_by inner (drop i pieces) ≡ whole
      → after ≡ before ++ tops_by inner (slice_index_or pieces i d ∷ [])
      → after ++ tops_by inner (drop (i + 1) pieces) ≡ whole
  tops_more after low so_far one =
      let next : suc i ≡ i + 1 = omega arith in
      ap (λ ns. ns ++ tops_by inner (drop (i + 1) pieces)) one
      ∙ append_assoc before (tops_by inner (slice_index_or pieces i d ∷ [])) (tops_by inner (drop (i + 1) pieces))
      ∙ ap (λ ns. before ++ ns) (sym (by-append inner (slice_index_or pieces i d ∷ []) (drop (i + 1) pieces)))
      ∙ ap (λ ts. before ++ tops_by inner ts) (sym (drop-cons pieces i d low ∙ ap (λ (k : ℕ). slice_index_or pieces i d ∷ drop k pieces) next))
      ∙ so_far

  -- and at the end all
  pub tops_done : length pieces ≤ i → before ++ tops_by inner (drop i pieces) ≡ whole → before ≡ whole
  tops_done end so_far = sym (nil-right before) ∙ ap (λ ts. before ++ tops_by inner ts) (sym (drop_of_length-le pieces end)) ∙ so_far

pub ruleset tops = (scope_out, scope_none, scope_some, side_none, side_some, nil-right, removed-is, replaced-is, tree_numbers, value_numbers, items_numbers, on_Root)
