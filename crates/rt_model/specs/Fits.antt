-- The node test: what a tree has to be before it is taken.
use Rattle.std.specs.Prelude.{ℕ, zero, suc, ◌+◌, Bool, true, false, ◌&&◌, ◌||◌, not, nat_eq, nat_lt, nat_le, List, [], ◌∷◌, ◌++◌, length, Option, is_some}
use Rattle.rt_model.specs.Lists.{Text, same_numbers, same_option, same_list}
use Rattle.rt_model.specs.Tree.{Types, TemplateAttribute, fixed, from_slot, TemplateNodes, no_nodes, element_node, text_node, slot_node, Template, AttributeValue, text_value, no_value, listener, Attribute, Tree, block, Slots, no_slots, more_slots, Slot, text_slot, placeholder_slot, component_slot, fragment_slot, Trees, no_trees, more_trees, VComponent, Own, Root, Fragment, ErrorBoundary, SuspenseBoundary, Element, rendered, failed, suspended, attributes_in, node_slots, attribute_slots, paths_of}

-- the numbers count up from this one
abbrev pub counts_from : ℕ → List (ℕ × List ℕ) → Bool
counts_from n [] = true
counts_from n (e ∷ es) = nat_eq e.0 n && counts_from (n + 1) es

-- the number of nodes in a row
abbrev pub row_length : TemplateNodes → ℕ
row_length no_nodes = 0
row_length (element_node tag namespace attributes children rest) = row_length rest + 1
row_length (text_node text rest) = row_length rest + 1
row_length (slot_node k rest) = row_length rest + 1

-- how many node slots a tree gives
abbrev pub slot_count : {K : Types} → Slots K → ℕ
slot_count no_slots = 0
slot_count (more_slots v rest) = slot_count rest + 1

-- a name with its namespace
abbrev pub same_name : Text × Option Text → Text × Option Text → Bool
same_name a b = same_numbers a.0 b.0 && same_option same_numbers a.1 b.1

-- a name is among others
abbrev pub is_named : Text × Option Text → List (Text × Option Text) → Bool
is_named a [] = false
is_named a (b ∷ bs) = same_name a b || is_named a bs

-- no name stands twice
abbrev pub all_once : List (Text × Option Text) → Bool
all_once [] = true
all_once (a ∷ names) = not (is_named a names) && all_once names

-- the template counts its slots depth first and knows their paths
abbrev pub template_fits : Template → Bool
template_fits t =
    nat_lt 0 (row_length t.roots)
    &&
    nat_le (row_length t.roots) 256
    &&
    counts_from 0 (node_slots [] 0 t.roots)
    &&
    counts_from 0 (attribute_slots [] 0 t.roots)
    &&
    same_list same_numbers (paths_of (node_slots [] 0 t.roots)) t.node_paths
    &&
    same_list same_numbers (paths_of (attribute_slots [] 0 t.roots)) t.attribute_paths

module _ {K : Types} where
  -- the names of the attributes that a slot gives
  abbrev pub given_names : List (Attribute K) → List (Text × Option Text)
  given_names [] = []
  given_names (a ∷ rest) = (a.name, a.namespace) ∷ given_names rest

  -- the names of all attributes of an element, static or in slots
  abbrev pub element_names : List (List (Attribute K)) → List TemplateAttribute → List (Text × Option Text)
  element_names slots [] = []
  element_names slots (fixed name namespace value ∷ rest) = (name, namespace) ∷ element_names slots rest
  element_names slots (from_slot k ∷ rest) = given_names (attributes_in slots k) ++ element_names slots rest

  -- a listener has no namespace
  abbrev pub is_plain : AttributeValue K → Option Text → Bool
  is_plain (listener origin handler) namespace = not (is_some namespace)
  is_plain (text_value text) namespace = true
  is_plain no_value namespace = true

  -- no listener that a slot gives has a namespace
  abbrev pub plain_listeners : List (Attribute K) → Bool
  plain_listeners [] = true
  plain_listeners (a ∷ rest) = is_plain a.value a.namespace && plain_listeners rest

  -- no listener of any slot has a namespace
  abbrev pub all_plain : List (List (Attribute K)) → Bool
  all_plain [] = true
  all_plain (a ∷ slots) = plain_listeners a && all_plain slots

  -- at most 128 levels, at most 256 children, no name twice; slot tests a numbered slot, with the level below it
  abbrev pub nodes_fit : List (List (Attribute K)) → (ℕ → ℕ → Bool) → ℕ → TemplateNodes → Bool
  nodes_fit slots slot level no_nodes = true
  nodes_fit slots slot level (element_node tag namespace attributes children rest) =
      nat_le level 128
      &&
      nat_le (row_length children) 256
      &&
      all_once (element_names slots attributes)
      &&
      nodes_fit slots slot (level + 1) children
      &&
      nodes_fit slots slot level rest
  nodes_fit slots slot level (text_node text rest) = nat_le level 128 && nodes_fit slots slot level rest
  nodes_fit slots slot level (slot_node k rest) = nat_le level 128 && slot k (level + 1) && nodes_fit slots slot level rest

  abbrev mutual
    -- the test of a tree whose roots are at this level
    pub fits_at : Tree K → ℕ → Bool
    fits_at (block template attributes slots) level =
        template_fits template
        &&
        nat_eq (slot_count slots) (length template.node_paths)
        &&
        nat_eq (length attributes) (length template.attribute_paths)
        &&
        all_plain attributes
        &&
        nodes_fit attributes (λ k below. slots_fit slots k below) level template.roots

    -- the test of the slot with a number
    pub slots_fit : Slots K → ℕ → ℕ → Bool
    slots_fit no_slots k level = true
    slots_fit (more_slots v rest) zero level = slot_fits v level
    slots_fit (more_slots v rest) (suc k) level = slots_fit rest k level

    -- the test of what stands in a slot
    pub slot_fits : Slot K → ℕ → Bool
    slot_fits (text_slot text) level = true
    slot_fits placeholder_slot level = true
    slot_fits (component_slot component) level = component_fits component level
    slot_fits (fragment_slot items) level = items_fit items level

    -- the test of a fragment's items
    pub items_fit : Trees K → ℕ → Bool
    items_fit no_trees level = true
    items_fit (more_trees t ts) level = fits_at t level && items_fit ts level

    -- a built-in component's children are nested trees
    pub component_fits : VComponent K → ℕ → Bool
    component_fits (Own component props) level = true
    component_fits (Root component props) level = true
    component_fits (Fragment children) level = element_fits children level
    component_fits (ErrorBoundary children handler) level = element_fits children level
    component_fits (SuspenseBoundary children fallback) level = element_fits children level

    -- the test of a body's answer
    pub element_fits : Element K → ℕ → Bool
    element_fits (rendered tree) level = fits_at tree level
    element_fits (failed error) level = true
    element_fits (suspended origin task) level = true

  -- the node test of a tree
  abbrev pub fits : Tree K → Bool
  fits tree = fits_at tree 1
