-- What a side shows where rows were given for its child scopes.
use Rattle.std.proofs.Common.{ℕ, ◌+◌, List, ◌≡◌, ◌∙◌, map, arith}
use Rattle.tree_nodes.specs.declared.vnode.DynamicNode.{DynamicNode}
use Rattle.tree_nodes.specs.declared.vnode.VNode.{VNode}
use Rattle.rt_model.specs.Tree.{Place}
use Rattle.rt_model.specs.View.{items_view, slot_view, tree_view}
use Rattle.tree_mirror.specs.Mirror.{trees_from}
use Rattle.tree_mirror.specs.Sealed.{slot_of, tree_of}
use Rattle.run_places.specs.declared.side.Side.{Side}
use Rattle.run_places.specs.Places.{side_of}
use Rattle.run_shown.specs.declared.asked.GivenRows.{GivenRows}
use Rattle.run_shown.specs.declared.showing.Shown.{Shown}
use Rattle.run_shown.specs.Given.{given_to}
use Rattle.run_shown.specs.Seen.{items_in, seen_by, tree_in, tree_seen, value_in, value_seen}
use Rattle.run_shown.proofs.Views.{items_are}

module _ {P C Q V H T E L : Type 0} (shown : Shown P C Q V H T E L) (side : Side P C Q V H T E L) (given : GivenRows)
    (of_side : shown.side.now ≡ side) (of_rows : (t : ℕ) → seen_by shown.asked t ≡ given_to given t) where
  pub given_tree : (tree : VNode P C Q V H T E L) (above : Place) → tree_in shown tree above ≡ tree_view (side_of side) (λ t. given_to given t) above (tree_of tree)
  unfolding tree_seen
  given_tree tree above k = tree_view (side_of (of_side k)) (λ t. of_rows t k) above (tree_of tree)

  pub given_slot : (value : DynamicNode P C Q V H T E L) (place : Place) → value_in shown value place ≡ slot_view (side_of side) (λ t. given_to given t) (slot_of value) place
  unfolding value_seen
  given_slot value place k = slot_view (side_of (of_side k)) (λ t. of_rows t k) (slot_of value) place

  pub given_items : (first : ℕ) (place : Place) (trees : List (VNode P C Q V H T E L))
      → items_in shown first place trees ≡ items_view (side_of side) (λ t. given_to given t) first place (trees_from (map tree_of trees))
  given_items first place trees =
      let from : first + 0 ≡ first = omega arith in
      items_are shown.asked shown.side.now first 0 place trees
      ∙ (λ k. items_view (side_of (of_side k)) (λ t. of_rows t k) (from k) place (trees_from (map tree_of trees)))
