-- What a walk over an old tree and a new one meets: what becomes of each place, and where something is written.
use Rattle.std.specs.Prelude.{ℕ, zero, suc, ◌+◌, if◌then◌else◌, List, [], ◌∷◌, ◌++◌, map}
use Rattle.rt_model.specs.Lists.{Text}
use Rattle.rt_model.specs.Tree.{Types, TemplateNodes, no_nodes, element_node, text_node, slot_node, Template, same_template, Attribute, Tree, block, Slots, no_slots, more_slots, Slot, text_slot, placeholder_slot, component_slot, fragment_slot, Trees, no_trees, more_trees, VComponent, item, Place, Kind, an_element, a_static_text, a_text, a_placeholder, an_empty_fragment, Spot, node_at, component_at, place_in, spots, slots_spots, slot_spots, item_spots}
use Rattle.rt_model.specs.World.{Application}
use Rattle.rt_model.specs.Values.{is_same_component}

-- one thing that is met
pub data Mark (K : Types) : Type 0 where
  -- a node of both trees
  stays : (place : Place) → (kind : Kind) → Mark K
  -- a node of the old tree alone
  goes : (place : Place) → (kind : Kind) → Mark K
  -- a node of the new tree alone
  comes : (place : Place) → (kind : Kind) → Mark K
  -- a component of both trees, whose child is fed
  fed : (place : Place) → (before after : VComponent K) → Mark K
  -- a component of the old tree alone, whose child is left
  left : (place : Place) → (before : VComponent K) → Mark K
  -- a component of the new tree alone, whose child is made
  made : (place : Place) → (after : VComponent K) → Mark K
  -- a template stays: what its attribute slots give and gave
  given : (above : Place) → (whole : Template) → (new old : List (List (Attribute K))) → Mark K
  -- a text stays, or another one comes in its place
  worded : (place : Place) → (new old : Text) → Mark K
  -- a slot's old nodes are to go: whoever shows them is asked
  slot_goes : (place : Place) → (old : Slot K) → Mark K
  -- a tree's old nodes are
  tree_goes : (above : Place) → (old : Tree K) → Mark K
  -- a slot's old nodes give way, once all that comes there was met
  slot_way : (place : Place) → (new old : Slot K) → Mark K
  -- a tree's old nodes do
  tree_way : (above : Place) → (new old : Tree K) → Mark K
  -- items from a position on come behind those in front of them
  come_in : (place : Place) → (front : List (Tree K)) → (i : ℕ) → (new : Trees K) → Mark K
  -- items from a position on go
  go_out : (place : Place) → (i : ℕ) → (old : Trees K) → Mark K
  -- a slot that the old tree doesn't have, which trees that pass the node test never give
  lone : (place : Place) → (new : Slot K) → Mark K

module _ {K : Types} where
  -- a spot of the old tree goes
  abbrev pub gone : Spot K → Mark K
  gone (node_at p k) = goes p k
  gone (component_at p c) = left p c

  -- one of the new tree comes
  abbrev pub come : Spot K → Mark K
  come (node_at p k) = comes p k
  come (component_at p c) = made p c

  -- the old spots go, then the new ones come
  abbrev pub changed : List (Spot K) → List (Spot K) → List (Mark K)
  changed olds news = map gone olds ++ map come news

  -- a template's nodes, with the mark of each node of its own and what is met in each slot
  abbrev pub template_marks : (Place → Kind → Mark K) → Template → Place → (ℕ → Place → List (Mark K)) → List ℕ → ℕ → TemplateNodes
      → List (Mark K)
  template_marks node whole above slot up i no_nodes = []
  template_marks node whole above slot up i (element_node tag namespace attributes children rest) =
      node (place_in whole above up i) an_element
      ∷
      template_marks node whole above slot (up ++ i ∷ []) 0 children
      ++
      template_marks node whole above slot up (i + 1) rest
  template_marks node whole above slot up i (text_node text rest) =
      node (place_in whole above up i) a_static_text ∷ template_marks node whole above slot up (i + 1) rest
  template_marks node whole above slot up i (slot_node k rest) =
      slot k (place_in whole above up i) ++ template_marks node whole above slot up (i + 1) rest

  module _ (app : Application K) where
    abbrev mutual
      -- an old tree and a new one at a place
      pub tree_marks : Place → Tree K → Tree K → List (Mark K)
      tree_marks above (block template new slots) (block other old olds) =
          if same_template template other
          then
          given above template new old
          ∷
          template_marks (λ p k. stays p k) template above (λ k place. slots_marks slots olds k place) [] 0 template.roots
          else
          tree_goes above (block other old olds)
          ∷
          changed (spots above (block other old olds)) (spots above (block template new slots))
          ++
          tree_way above (block template new slots) (block other old olds)
          ∷
          []

      -- the slots with a number
      pub slots_marks : Slots K → Slots K → ℕ → Place → List (Mark K)
      slots_marks no_slots no_slots k place = []
      slots_marks no_slots (more_slots u others) k place = map gone (slots_spots (more_slots u others) k place)
      slots_marks (more_slots v rest) no_slots zero place = map come (slot_spots v place) ++ lone place v ∷ []
      slots_marks (more_slots v rest) no_slots (suc k) place = slots_marks rest no_slots k place
      slots_marks (more_slots v rest) (more_slots u others) zero place = slot_marks place v u
      slots_marks (more_slots v rest) (more_slots u others) (suc k) place = slots_marks rest others k place

      -- what stands in a slot
      pub slot_marks : Place → Slot K → Slot K → List (Mark K)
      slot_marks place (text_slot t) (text_slot u) = stays place a_text ∷ worded place t u ∷ []
      slot_marks place placeholder_slot placeholder_slot = stays place a_placeholder ∷ []
      slot_marks place (component_slot c) (component_slot d) =
          if is_same_component app d c
          then fed place d c ∷ []
          else slot_goes place (component_slot d) ∷ left place d ∷ made place c ∷ slot_way place (component_slot c) (component_slot d) ∷ []
      slot_marks place (fragment_slot no_trees) (fragment_slot no_trees) = stays place an_empty_fragment ∷ []
      slot_marks place (fragment_slot (more_trees y ys)) (fragment_slot (more_trees x xs)) =
          items_marks place 0 [] (more_trees y ys) (more_trees x xs)
      slot_marks place new old =
          slot_goes place old ∷ changed (slot_spots old place) (slot_spots new place) ++ slot_way place new old ∷ []

      -- the items of two fragments from a position on, with the new ones in front of them
      pub items_marks : Place → ℕ → List (Tree K) → Trees K → Trees K → List (Mark K)
      items_marks place i front no_trees no_trees = []
      items_marks place i front no_trees (more_trees x xs) =
          map gone (item_spots i place (more_trees x xs)) ++ go_out place i (more_trees x xs) ∷ []
      items_marks place i front (more_trees y ys) no_trees =
          map come (item_spots i place (more_trees y ys)) ++ come_in place front i (more_trees y ys) ∷ []
      items_marks place i front (more_trees y ys) (more_trees x xs) =
          tree_marks (place ++ item i ∷ []) y x ++ items_marks place (i + 1) (front ++ y ∷ []) ys xs
