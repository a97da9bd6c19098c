-- The marks of two trees bring the spots of the new one, in its order.
use Rattle.std.proofs.Common.{ℕ, zero, suc, ◌+◌, List, [], ◌∷◌, ◌++◌, ◌≡◌, map, refl, ap}
use Rattle.rt_model.specs.Tree.{Types, TemplateNodes, no_nodes, element_node, text_node, slot_node, Template, same_template, Tree, block, Slots, no_slots, more_slots, Slot, text_slot, placeholder_slot, component_slot, fragment_slot, Trees, no_trees, more_trees, item, Place, an_element, a_static_text, Spot, node_at, component_at, node_spots, place_in, spots, slots_spots, slot_spots, item_spots}
use Rattle.rt_model.specs.World.{Application}
use Rattle.rt_model.specs.Values.{is_same_component}
use Rattle.rt_model.proofs.Maps.{by_test}
use Rattle.tree_marks.specs.Marks.{Mark, stays, slot_goes, slot_way, tree_way, come_in, go_out, lone, gone, come, changed, template_marks, tree_marks, slots_marks, slot_marks, items_marks}
use Rattle.tree_marks.specs.Spots.{brings, all_brought}
use Rattle.run_work.proofs.Joins.{both_joined, none_more}

module _ {K : Types} where
  -- what goes brings nothing, what comes brings itself
  pub gone_only : (ss : List (Spot K)) → all_brought (map gone ss) ≡ []
  gone_only [] = refl
  gone_only (node_at p k ∷ ss) = gone_only ss
  gone_only (component_at p c ∷ ss) = gone_only ss

  pub come_all : (ss : List (Spot K)) → all_brought (map come ss) ≡ ss
  come_all [] = refl
  come_all (node_at p k ∷ ss) = ap (λ (zs : List (Spot K)). node_at p k ∷ zs) (come_all ss)
  come_all (component_at p c ∷ ss) = ap (λ (zs : List (Spot K)). component_at p c ∷ zs) (come_all ss)

  pub changed_all : (olds news : List (Spot K)) → all_brought (changed olds news) ≡ news
  changed_all olds news = both_joined brings (map gone olds) (map come news) (gone_only olds) (come_all news)

  template_brings : (whole : Template) (above : Place) (ms : ℕ → Place → List (Mark K)) (ss : ℕ → Place → List (Spot K))
      → ((k : ℕ) (place : Place) → all_brought (ms k place) ≡ ss k place)
      → (up : List ℕ) (i : ℕ) (nodes : TemplateNodes)
      → all_brought (template_marks (λ p k. stays p k) whole above ms up i nodes) ≡ node_spots whole above ss up i nodes
  template_brings whole above ms ss h up i no_nodes = refl
  template_brings whole above ms ss h up i (element_node tag namespace attributes children rest) =
      ap (λ (zs : List (Spot K)). node_at (place_in whole above up i) an_element ∷ zs)
      (both_joined brings
      (template_marks (λ p k. stays p k) whole above ms (up ++ i ∷ []) 0 children)
      (template_marks (λ p k. stays p k) whole above ms up (i + 1) rest)
      (template_brings whole above ms ss h (up ++ i ∷ []) 0 children)
      (template_brings whole above ms ss h up (i + 1) rest))
  template_brings whole above ms ss h up i (text_node text rest) =
      ap (λ (zs : List (Spot K)). node_at (place_in whole above up i) a_static_text ∷ zs) (template_brings whole above ms ss h up (i + 1) rest)
  template_brings whole above ms ss h up i (slot_node k rest) =
      both_joined brings
      (ms k (place_in whole above up i))
      (template_marks (λ p k. stays p k) whole above ms up (i + 1) rest)
      (h k (place_in whole above up i))
      (template_brings whole above ms ss h up (i + 1) rest)

  way_brings : (place : Place) (y x : Slot K) → all_brought (slot_goes place x ∷ changed (slot_spots x place) (slot_spots y place) ++ slot_way place y x ∷ []) ≡ slot_spots y place
  way_brings place y x =
      none_more brings (changed (slot_spots x place) (slot_spots y place)) (slot_way place y x) refl (changed_all (slot_spots x place) (slot_spots y place))

  module _ (app : Application K) where
    mutual
      pub tree_brought : (above : Place) (y x : Tree K) → all_brought (tree_marks app above y x) ≡ spots above y
      tree_brought above (block template new slots) (block other old olds) =
          by_test (same_template template other)
          (λ e.
          rw e
          (template_brings template above (λ k place. slots_marks app slots olds k place) (λ k place. slots_spots slots k place)
          (λ k place. slots_brought slots olds k place) [] 0 template.roots))
          (λ e.
          rw e
          (none_more brings (changed (spots above (block other old olds)) (spots above (block template new slots)))
          (tree_way above (block template new slots) (block other old olds)) refl
          (changed_all (spots above (block other old olds)) (spots above (block template new slots)))))

      slots_brought : (ys xs : Slots K) (k : ℕ) (place : Place) → all_brought (slots_marks app ys xs k place) ≡ slots_spots ys k place
      slots_brought no_slots no_slots k place = refl
      slots_brought no_slots (more_slots u others) k place = gone_only (slots_spots (more_slots u others) k place)
      slots_brought (more_slots v rest) no_slots zero place = none_more brings (map come (slot_spots v place)) (lone place v) refl (come_all (slot_spots v place))
      slots_brought (more_slots v rest) no_slots (suc k) place = slots_brought rest no_slots k place
      slots_brought (more_slots v rest) (more_slots u others) zero place = slot_brought place v u
      slots_brought (more_slots v rest) (more_slots u others) (suc k) place = slots_brought rest others k place

      slot_brought : (place : Place) (y x : Slot K) → all_brought (slot_marks app place y x) ≡ slot_spots y place
      slot_brought place (text_slot t) (text_slot u) = refl
      slot_brought place placeholder_slot placeholder_slot = refl
      slot_brought place (component_slot c) (component_slot d) =
          by_test (is_same_component app d c) (λ e. rw e refl) (λ e. rw e refl)
      slot_brought place (fragment_slot no_trees) (fragment_slot no_trees) = refl
      slot_brought place (fragment_slot (more_trees y ys)) (fragment_slot (more_trees x xs)) =
          items_brought place 0 [] (more_trees y ys) (more_trees x xs)
      slot_brought place y x = way_brings place y x

      items_brought : (place : Place) (i : ℕ) (front : List (Tree K)) (ys xs : Trees K) → all_brought (items_marks app place i front ys xs) ≡ item_spots i place ys
      items_brought place i front no_trees no_trees = refl
      items_brought place i front no_trees (more_trees x xs) =
          none_more brings (map gone (item_spots i place (more_trees x xs))) (go_out place i (more_trees x xs)) refl
          (gone_only (item_spots i place (more_trees x xs)))
      items_brought place i front (more_trees y ys) no_trees =
          none_more brings (map come (item_spots i place (more_trees y ys))) (come_in place front i (more_trees y ys)) refl
          (come_all (item_spots i place (more_trees y ys)))
      items_brought place i front (more_trees y ys) (more_trees x xs) =
          both_joined brings
          (tree_marks app (place ++ item i ∷ []) y x)
          (items_marks app place (i + 1) (front ++ y ∷ []) ys xs)
          (tree_brought (place ++ item i ∷ []) y x)
          (items_brought place (i + 1) (front ++ y ∷ []) ys xs)
