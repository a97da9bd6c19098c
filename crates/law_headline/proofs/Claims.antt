-- What the edits between two outputs claim is shown by the old one or by the new one.
use Rattle.std.proofs.Common.{ℕ, zero, suc, ◌+◌, ◌≤◌, List, [], ◌∷◌, ◌++◌, ◌≡◌, sym, ap, arith}
use Rattle.std.specs.Prelude.{Option, Some, None}
use Rattle.rt_lemmas.proofs.Numbers.{least as no_more}
use Rattle.rt_model.specs.Tree.{Types, TemplateNodes, no_nodes, element_node, text_node, slot_node, Template, same_template, Attribute, Tree, block, Slots, no_slots, more_slots, Slot, text_slot, placeholder_slot, component_slot, fragment_slot, Trees, no_trees, more_trees, item, Place, place_in}
use Rattle.rt_model.specs.World.{Application}
use Rattle.rt_model.specs.Values.{is_same_component}
use Rattle.rt_model.specs.Run.{child_at}
use Rattle.rt_model.specs.Document.{Forest, count_of}
use Rattle.rt_model.specs.View.{child_view, nodes_view, tree_view, slots_view, slot_view, items_view}
use Rattle.rt_model.specs.Caused.{Both}
use Rattle.rt_model.proofs.Maps.{by_test}
use Rattle.rt_model.proofs.SamePlaces.{template-true}
use Rattle.rt_model.proofs.ViewCounts.{count_join}
use Rattle.law_moves.specs.Meets.{NodesMeet, nodes_claims, ChildBrings, ChildMeets, child_claims, way_claims, TreeMeets, SlotsMeet, SlotMeets, ItemsMeet, tree_claims, slots_claims, slot_claims, items_claims}

module _ {K : Types} (app : Application K) (b : Both K) (child : ℕ → Type 0) (claims : ℕ → ℕ → ℕ) (each : (t : ℕ) → child t → ChildBrings b claims t) (n : ℕ) where
  child_claimed : (o p : Option ℕ) → p ≡ o → ChildMeets app b child o → child_claims app b claims n o ≤ count_of n (child_view b.old_child o) + count_of n (child_view b.new_child p)
  child_claimed None p e h = omega arith
  child_claimed (Some t) p e h = rw e ((each t h).bounded n)

  nodes_claimed : (whole : Template) (above : Place) (given others : List (List (Attribute K))) (old new : ℕ → Place → Forest) (claim : ℕ → Place → ℕ) (meets : ℕ → Place → Type 0)
      → ((k : ℕ) (place : Place) → meets k place → claim k place ≤ count_of n (old k place) + count_of n (new k place))
      → (nodes : TemplateNodes) (up : List ℕ) (i : ℕ)
      → NodesMeet b.old.numbers b.new.numbers whole above meets up i nodes
      → nodes_claims n b.old.numbers whole above claim up i nodes
      ≤ count_of n (nodes_view b.old.numbers whole above others old up i nodes) + count_of n (nodes_view b.new.numbers whole above given new up i nodes)
  nodes_claimed whole above given others old new claim meets slots no_nodes up i h = omega arith
  nodes_claimed whole above given others old new claim meets slots (element_node tag namespace attributes children rest) up i h =
      omega (arith, nodes_claimed whole above given others old new claim meets slots children (up ++ i ∷ []) 0 h.1, nodes_claimed whole above given others old new claim meets slots rest up (i + 1) h.2)
  nodes_claimed whole above given others old new claim meets slots (text_node text rest) up i h =
      omega (arith, nodes_claimed whole above given others old new claim meets slots rest up (i + 1) h.1)
  nodes_claimed whole above given others old new claim meets slots (slot_node k rest) up i h =
      let place : Place = place_in whole above up i in
      omega (
        arith,
        slots k place h.0,
        nodes_claimed whole above given others old new claim meets slots rest up (i + 1) h.1,
        count_join n (old k place) (nodes_view b.old.numbers whole above others old up (i + 1) rest),
        count_join n (new k place) (nodes_view b.new.numbers whole above given new up (i + 1) rest),
      )

  mutual
    -- of trees that meet
    pub tree_claimed : (above : Place) (y x : Tree K) → TreeMeets app b child above y x
        → tree_claims app b claims n above y x ≤ count_of n (tree_view b.old b.old_child above x) + count_of n (tree_view b.new b.new_child above y)
    tree_claimed above (block template given slots) (block other others olds) h =
        by_test (same_template template other)
        (λ e.
        let view : tree_view b.old b.old_child above (block other others olds) ≡ tree_view b.old b.old_child above (block template others olds) =
        ap (λ (t : Template). tree_view b.old b.old_child above (block t others olds)) (sym (template-true template other e)) in
        rw (e, view)
        (nodes_claimed template above given others
        (λ k place. slots_view b.old b.old_child olds k place)
        (λ k place. slots_view b.new b.new_child slots k place)
        (λ k place. slots_claims app b claims n slots olds k place)
        (λ k place. SlotsMeet app b child slots olds k place)
        (λ k place m. slots_claimed slots olds k place m)
        template.roots [] 0 ((h.0 e).1)))
        (λ e. rw e (omega arith))

    slots_claimed : (ys xs : Slots K) (k : ℕ) (place : Place) → SlotsMeet app b child ys xs k place
        → slots_claims app b claims n ys xs k place ≤ count_of n (slots_view b.old b.old_child xs k place) + count_of n (slots_view b.new b.new_child ys k place)
    slots_claimed no_slots no_slots k place h = omega arith
    slots_claimed no_slots (more_slots u others) k place h = absurd h
    slots_claimed (more_slots v rest) no_slots k place h = absurd h
    slots_claimed (more_slots v rest) (more_slots u others) zero place h = slot_claimed place v u h
    slots_claimed (more_slots v rest) (more_slots u others) (suc k) place h = slots_claimed rest others k place h

    slot_claimed : (place : Place) (y x : Slot K) → SlotMeets app b child place y x
        → slot_claims app b claims n place y x ≤ count_of n (slot_view b.old b.old_child x place) + count_of n (slot_view b.new b.new_child y place)
    slot_claimed place (text_slot t) (text_slot u) h = omega arith
    slot_claimed place placeholder_slot placeholder_slot h = omega arith
    slot_claimed place (component_slot c) (component_slot d) h =
        by_test (is_same_component app d c)
        (λ e. rw e (child_claimed (child_at b.old.children place) (child_at b.new.children place) ((h.0 e).0) ((h.0 e).1)))
        (λ e. rw e (omega arith))
    slot_claimed place (fragment_slot no_trees) (fragment_slot no_trees) h = omega arith
    slot_claimed place (fragment_slot (more_trees y ys)) (fragment_slot (more_trees x xs)) h = items_claimed place 0 (more_trees y ys) (more_trees x xs) h
    slot_claimed place y x h = no_more (way_claims app b claims n place y x)

    items_claimed : (place : Place) (i : ℕ) (ys xs : Trees K) → ItemsMeet app b child place i ys xs
        → items_claims app b claims n place i ys xs ≤ count_of n (items_view b.old b.old_child i place xs) + count_of n (items_view b.new b.new_child i place ys)
    items_claimed place i no_trees xs h = omega arith
    items_claimed place i (more_trees y ys) no_trees h = omega arith
    items_claimed place i (more_trees y ys) (more_trees x xs) h =
        omega (
          arith,
          tree_claimed (place ++ item i ∷ []) y x h.0,
          items_claimed place (i + 1) ys xs h.2,
          count_join n (tree_view b.old b.old_child (place ++ item i ∷ []) x) (items_view b.old b.old_child (i + 1) place xs),
          count_join n (tree_view b.new b.new_child (place ++ item i ∷ []) y) (items_view b.new b.new_child (i + 1) place ys),
        )
