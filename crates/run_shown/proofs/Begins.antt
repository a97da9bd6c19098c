-- All that stands in a tree stands below the place of the tree.
use Rattle.std.proofs.Common.{ℕ, zero, suc, ◌+◌, List, [], ◌∷◌, ◌++◌, ◌≡◌, ap, subst}
use Rattle.std.specs.Prelude.{Some, slice_get}
use Rattle.rt_model.specs.Tree.{Types, Template, TemplateNodes, no_nodes, element_node, text_node, slot_node, Tree, block, Slots, no_slots, more_slots, Slot, text_slot, placeholder_slot, component_slot, fragment_slot, Trees, no_trees, more_trees, Step, inside, item, Place, Kind, Spot, node_at, component_at, place_in, template_of, node_spots, spots, slots_spots, slot_spots, item_spots}
use Rattle.run_places.specs.Drawn.{nodes_in}

module _ {K : Types} (B : Place → Type 0) where
  -- it is so of the place of each spot
  abbrev pub AllAt : List (Spot K) → Type 0
  AllAt [] = Unit {0}
  AllAt (node_at p k ∷ ss) = B p × AllAt ss
  AllAt (component_at p c ∷ ss) = B p × AllAt ss

  both_at : (ss rest : List (Spot K)) → AllAt ss → AllAt rest → AllAt (ss ++ rest)
  both_at [] rest a b = b
  both_at (node_at p k ∷ ss) rest a b = (a.0, both_at ss rest a.1 b)
  both_at (component_at p c ∷ ss) rest a b = (a.0, both_at ss rest a.1 b)

  row_below : (whole : Template) (above : Place) (slot : ℕ → Place → List (Spot K)) → ((k : ℕ) (p : Place) → B p → AllAt (slot k p)) → ((path : List ℕ) → B (above ++ inside whole path ∷ []))
      → (up : List ℕ) (i : ℕ) (row : TemplateNodes) → AllAt (node_spots whole above slot up i row)
  row_below whole above slot given here up i no_nodes = tt
  row_below whole above slot given here up i (element_node tag namespace attributes children rest) = (
    here (up ++ i ∷ []),
    both_at (node_spots whole above slot (up ++ i ∷ []) 0 children) (node_spots whole above slot up (i + 1) rest)
        (row_below whole above slot given here (up ++ i ∷ []) 0 children) (row_below whole above slot given here up (i + 1) rest),
  )
  row_below whole above slot given here up i (text_node text rest) = (here (up ++ i ∷ []), row_below whole above slot given here up (i + 1) rest)
  row_below whole above slot given here up i (slot_node k rest) =
      both_at (slot k (place_in whole above up i)) (node_spots whole above slot up (i + 1) rest)
      (given k (place_in whole above up i) (here (up ++ i ∷ []))) (row_below whole above slot given here up (i + 1) rest)

  -- the node under an index
  pub node_below : (ss : List (Spot K)) (i : ℕ) (p : Place) (k : Kind) → AllAt ss → slice_get (nodes_in ss) i ≡ Some (p, k) → B p
  node_below [] i p k all h = cc h
  node_below (component_at q c ∷ ss) i p k all h = node_below ss i p k all.1 h
  node_below (node_at q l ∷ ss) zero p k all h = subst B (let both : (q, l) ≡ (p, k) = cc h in ap (λ (z : Place × Kind). z.0) both) all.0
  node_below (node_at q l ∷ ss) (suc i) p k all h = node_below ss i p k all.1 h

  module _ (further : (p : Place) (s : Step) → B p → B (p ++ s ∷ [])) where
    mutual
      pub tree_below : (tree : Tree K) (above : Place) → ((path : List ℕ) → B (above ++ inside (template_of tree) path ∷ [])) → AllAt (spots above tree)
      tree_below (block whole attributes slots) above here =
          row_below whole above (λ k place. slots_spots slots k place) (λ k p b. slots_below slots k p b) here [] 0 whole.roots

      slots_below : (slots : Slots K) (k : ℕ) (place : Place) → B place → AllAt (slots_spots slots k place)
      slots_below no_slots k place b = tt
      slots_below (more_slots v rest) zero place b = slot_below v place b
      slots_below (more_slots v rest) (suc k) place b = slots_below rest k place b

      slot_below : (v : Slot K) (place : Place) → B place → AllAt (slot_spots v place)
      slot_below (text_slot text) place b = (b, tt)
      slot_below placeholder_slot place b = (b, tt)
      slot_below (component_slot component) place b = (b, tt)
      slot_below (fragment_slot no_trees) place b = (b, tt)
      slot_below (fragment_slot (more_trees t ts)) place b = items_below (more_trees t ts) 0 place b

      items_below : (trees : Trees K) (i : ℕ) (place : Place) → B place → AllAt (item_spots i place trees)
      items_below no_trees i place b = tt
      items_below (more_trees t ts) i place b =
          both_at (spots (place ++ item i ∷ []) t) (item_spots (i + 1) place ts)
          (tree_below t (place ++ item i ∷ []) (λ path. further (place ++ item i ∷ []) (inside (template_of t) path) (further place (item i) b)))
          (items_below ts (i + 1) place b)
