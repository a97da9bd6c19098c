-- The components of a tree that fits have children that fit, and so has all that is made or fed for it.
use Rattle.std.proofs.Common.{ℕ, zero, suc, Bool, true, false, ◌+◌, List, [], ◌∷◌, ◌++◌, ◌≡◌, refl}
use Rattle.std.specs.Prelude.{Option, Some, None, if◌then◌else◌}
use Rattle.rt_model.specs.Tree.{Types, TemplateNodes, no_nodes, element_node, text_node, slot_node, Template, Attribute, Tree, block, Slots, no_slots, more_slots, Slot, text_slot, placeholder_slot, component_slot, fragment_slot, Trees, no_trees, more_trees, VComponent, Own, Root, Fragment, ErrorBoundary, SuspenseBoundary, Element, rendered, failed, suspended, item, Place, place_in, Spot, node_at, component_at, node_spots, spots, slots_spots, slot_spots, item_spots, placeholder_tree}
use Rattle.rt_model.specs.World.{Application}
use Rattle.rt_model.specs.Fits.{nodes_fit, fits_at, slots_fit, slot_fits, items_fit, component_fits, element_fits}
use Rattle.rt_model.specs.State.{SideName, RowStep, Item, Draw, Row, Feed, Make, Drop}
use Rattle.rt_model.specs.Run.{child_at, answer_fits, has_node, component_in, row_items, is_fed, serves, drop_at, drops_of}
use Rattle.rt_model.specs.Boundary.{tree_or_placeholder, children_of, drop_items}
use Rattle.rt_model.proofs.Conjunctions.{and-left, and-right}
use Rattle.rt_model.proofs.WellNumbered.{FitsBelow}

module _ {K : Types} where
  -- the children of a component fit, at some level
  pub record PartFits (c : VComponent K) : Type 0 where
    pub level : ℕ
    pub fits : component_fits c level ≡ true

  -- so do those of each component among these spots
  abbrev pub SpotsFit : List (Spot K) → Type 0
  SpotsFit [] = Unit {0}
  SpotsFit (node_at p k ∷ ss) = SpotsFit ss
  SpotsFit (component_at p c ∷ ss) = PartFits c × SpotsFit ss

  spots_both : (xs ys : List (Spot K)) → SpotsFit xs → SpotsFit ys → SpotsFit (xs ++ ys)
  spots_both [] ys h g = g
  spots_both (node_at p k ∷ xs) ys h g = spots_both xs ys h g
  spots_both (component_at p c ∷ xs) ys h g = (h.0, spots_both xs ys h.1 g)

  nodes_parts : (attributes : List (List (Attribute K))) (test : ℕ → ℕ → Bool) (slot : ℕ → Place → List (Spot K)) → ((k level : ℕ) (place : Place) → test k level ≡ true → SpotsFit (slot k place))
      → (whole : Template) (above : Place) (up : List ℕ) (i level : ℕ) (nodes : TemplateNodes) → nodes_fit attributes test level nodes ≡ true → SpotsFit (node_spots whole above slot up i nodes)
  nodes_parts attributes test slot f whole above up i level no_nodes h = tt
  nodes_parts attributes test slot f whole above up i level (element_node tag namespace given children rest) h =
      spots_both (node_spots whole above slot (up ++ i ∷ []) 0 children) (node_spots whole above slot up (i + 1) rest)
      (nodes_parts attributes test slot f whole above (up ++ i ∷ []) 0 (level + 1) children (and-right _ (nodes_fit attributes test (level + 1) children) (and-left _ (nodes_fit attributes test level rest) h)))
      (nodes_parts attributes test slot f whole above up (i + 1) level rest (and-right _ (nodes_fit attributes test level rest) h))
  nodes_parts attributes test slot f whole above up i level (text_node text rest) h =
      nodes_parts attributes test slot f whole above up (i + 1) level rest (and-right _ (nodes_fit attributes test level rest) h)
  nodes_parts attributes test slot f whole above up i level (slot_node k rest) h =
      spots_both (slot k (place_in whole above up i)) (node_spots whole above slot up (i + 1) rest)
      (f k (level + 1) (place_in whole above up i) (and-right _ (test k (level + 1)) (and-left _ (nodes_fit attributes test level rest) h)))
      (nodes_parts attributes test slot f whole above up (i + 1) level rest (and-right _ (nodes_fit attributes test level rest) h))

  mutual
    tree_parts : (tree : Tree K) (above : Place) (level : ℕ) → fits_at tree level ≡ true → SpotsFit (spots above tree)
    tree_parts (block template attributes slots) above level h =
        nodes_parts attributes (λ k below. slots_fit slots k below) (λ k place. slots_spots slots k place) (λ k below place g. slots_parts slots k below place g)
        template above [] 0 level template.roots
        (and-right _ (nodes_fit attributes (λ k below. slots_fit slots k below) level template.roots) h)

    slots_parts : (slots : Slots K) (k level : ℕ) (place : Place) → slots_fit slots k level ≡ true → SpotsFit (slots_spots slots k place)
    slots_parts no_slots k level place h = tt
    slots_parts (more_slots v rest) zero level place h = slot_parts v level place h
    slots_parts (more_slots v rest) (suc k) level place h = slots_parts rest k level place h

    slot_parts : (v : Slot K) (level : ℕ) (place : Place) → slot_fits v level ≡ true → SpotsFit (slot_spots v place)
    slot_parts (text_slot text) level place h = tt
    slot_parts placeholder_slot level place h = tt
    slot_parts (component_slot c) level place h = (record { level = level; fits = h }, tt)
    slot_parts (fragment_slot no_trees) level place h = tt
    slot_parts (fragment_slot (more_trees t ts)) level place h = items_parts (more_trees t ts) 0 level place h

    items_parts : (items : Trees K) (i level : ℕ) (place : Place) → items_fit items level ≡ true → SpotsFit (item_spots i place items)
    items_parts no_trees i level place h = tt
    items_parts (more_trees t ts) i level place h =
        spots_both (spots (place ++ item i ∷ []) t) (item_spots (i + 1) place ts)
        (tree_parts t (place ++ item i ∷ []) level (and-left _ (items_fit ts level) h))
        (items_parts ts (i + 1) level place (and-right _ (items_fit ts level) h))

  -- the components of a tree that fits
  pub parts_fit : (tree : Tree K) → FitsBelow tree → SpotsFit (spots [] tree)
  parts_fit tree f = tree_parts tree [] f.level f.fits

  -- a placeholder fits
  pub placeholder_fits : FitsBelow (placeholder_tree {K = K})
  placeholder_fits = record { level = 1; fits = refl }

  -- an answer that was tested is a tree that fits, or stands for a placeholder
  pub answer_below : (a : Element K) → answer_fits a ≡ true → FitsBelow (tree_or_placeholder a)
  answer_below (rendered tree) h = record { level = 1; fits = h }
  answer_below (failed e) h = placeholder_fits
  answer_below (suspended origin t) h = placeholder_fits

  element_below : (a : Element K) (level : ℕ) → element_fits a level ≡ true → FitsBelow (tree_or_placeholder a)
  element_below (rendered tree) level h = record { level = level; fits = h }
  element_below (failed e) level h = placeholder_fits
  element_below (suspended origin t) level h = placeholder_fits

  -- the children of a boundary
  pub children_fit : (c : VComponent K) → PartFits c → FitsBelow (children_of c)
  children_fit (SuspenseBoundary children fallback) f = element_below children f.level f.fits
  children_fit (Own component props) f = placeholder_fits
  children_fit (Root component props) f = placeholder_fits
  children_fit (Fragment children) f = placeholder_fits
  children_fit (ErrorBoundary children handler) f = placeholder_fits

  -- what is made or fed fits
  abbrev pub ItemsFit : List (Item K) → Type 0
  ItemsFit [] = Unit {0}
  ItemsFit (Draw s side p k ∷ rest) = ItemsFit rest
  ItemsFit (Row b step ∷ rest) = ItemsFit rest
  ItemsFit (Feed s side p c ∷ rest) = PartFits c × ItemsFit rest
  ItemsFit (Make s side p c ∷ rest) = PartFits c × ItemsFit rest
  ItemsFit (Drop t s side ∷ rest) = ItemsFit rest

  -- two lists of such items
  pub items_both : (xs ys : List (Item K)) → ItemsFit xs → ItemsFit ys → ItemsFit (xs ++ ys)
  items_both [] ys h g = g
  items_both (Draw s side p k ∷ xs) ys h g = items_both xs ys h g
  items_both (Row b step ∷ xs) ys h g = items_both xs ys h g
  items_both (Feed s side p c ∷ xs) ys h g = (h.0, items_both xs ys h.1 g)
  items_both (Make s side p c ∷ xs) ys h g = (h.0, items_both xs ys h.1 g)
  items_both (Drop t s side ∷ xs) ys h g = items_both xs ys h g

  items_either : (c : Bool) (xs ys : List (Item K)) → ItemsFit xs → ItemsFit ys → ItemsFit (if c then xs else ys)
  items_either true xs ys h g = h
  items_either false xs ys h g = g

module _ {K : Types} (app : Application K) where
  -- the steps of a boundary's run, and drops
  pub rows_fit : (b : ℕ) (steps : List RowStep) → ItemsFit (row_items {K = K} b steps)
  rows_fit b [] = tt
  rows_fit b (step ∷ steps) = rows_fit b steps

  drop_at_fits : (s : ℕ) (side : SideName) (o : Option ℕ) → ItemsFit (drop_at {K = K} s side o)
  drop_at_fits s side None = tt
  drop_at_fits s side (Some t) = tt

  -- drops make and feed nothing
  pub drop_items_fit : (b : ℕ) (side : SideName) (ts : List ℕ) → ItemsFit (drop_items {K = K} b side ts)
  drop_items_fit b side [] = tt
  drop_items_fit b side (t ∷ ts) = drop_items_fit b side ts

  -- the agenda of a tree whose components fit
  pub serves_fit : (s : ℕ) (side : SideName) (old new : List (Spot K)) → SpotsFit new → ItemsFit (serves app s side old new)
  serves_fit s side old [] h = tt
  serves_fit s side old (node_at p k ∷ new) h =
      items_either (has_node old p k) (serves app s side old new) (Draw s side p k ∷ serves app s side old new) (serves_fit s side old new h) (serves_fit s side old new h)
  serves_fit s side old (component_at p c ∷ new) h =
      items_either (is_fed app (component_in old p) (Some c)) (Feed s side p c ∷ serves app s side old new) (Make s side p c ∷ serves app s side old new)
      (h.0, serves_fit s side old new h.1)
      (h.0, serves_fit s side old new h.1)

  -- and its drops
  pub drops_fit : (s : ℕ) (side : SideName) (new : List (Spot K)) (children : List (Place × ℕ)) (old : List (Spot K)) → ItemsFit (drops_of app s side new children old)
  drops_fit s side new children [] = tt
  drops_fit s side new children (node_at p k ∷ old) = drops_fit s side new children old
  drops_fit s side new children (component_at p c ∷ old) =
      items_either (is_fed app (Some c) (component_in new p)) (drops_of app s side new children old) (drop_at s side (child_at children p) ++ drops_of app s side new children old)
      (drops_fit s side new children old)
      (items_both (drop_at s side (child_at children p)) (drops_of app s side new children old) (drop_at_fits s side (child_at children p)) (drops_fit s side new children old))
