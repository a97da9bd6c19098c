-- What shows: the kept outputs with their numbers, put into one another.
use Rattle.std.specs.Prelude.{ℕ, zero, suc, ◌+◌, List, [], ◌∷◌, ◌++◌, length, Option, Some, None}
use Rattle.rt_model.specs.Lists.{Text, at}
use Rattle.rt_model.specs.Tree.{Types, TemplateAttribute, fixed, from_slot, TemplateNodes, no_nodes, element_node, text_node, slot_node, Template, AttributeValue, text_value, no_value, listener, Attribute, Tree, block, Slots, no_slots, more_slots, Slot, text_slot, placeholder_slot, component_slot, fragment_slot, Trees, no_trees, more_trees, item, Place, Kind, an_element, a_static_text, a_text, a_placeholder, an_empty_fragment, place_in, attributes_in}
use Rattle.rt_model.specs.State.{Side, Scope, State, side_of}
use Rattle.rt_model.specs.Run.{child_at}
use Rattle.rt_model.specs.Document.{DocAttribute, DocElement, DocText, DocPlaceholder, Forest, Empty, Node, join_rows, leaf, with_attribute, with_listener}
use Rattle.rt_model.specs.Heard.{number_at}

-- what the child scope at a place shows
abbrev pub child_view : (ℕ → Forest) → Option ℕ → Forest
child_view inner None = Empty
child_view inner (Some t) = inner t

module _ {K : Types} where
  -- an attribute with the value none is absent
  abbrev pub one_attribute : List DocAttribute → Attribute K → AttributeValue K → List DocAttribute
  one_attribute all a (text_value text) = with_attribute all (record { name = a.name; namespace = a.namespace; value = text })
  one_attribute all a no_value = all
  one_attribute all a (listener origin handler) = all

  -- a listener adds its name
  abbrev pub one_listener : List Text → Attribute K → AttributeValue K → List Text
  one_listener all a (listener origin handler) = with_listener all a.name
  one_listener all a (text_value text) = all
  one_listener all a no_value = all

  -- what a slot gives joins an element's attributes
  abbrev pub given_attributes : List DocAttribute → List (Attribute K) → List DocAttribute
  given_attributes all [] = all
  given_attributes all (a ∷ rest) = given_attributes (one_attribute all a a.value) rest

  -- the listeners that a slot gives join those of an element
  abbrev pub given_listeners : List Text → List (Attribute K) → List Text
  given_listeners all [] = all
  given_listeners all (a ∷ rest) = given_listeners (one_listener all a a.value) rest

  -- the attributes of an element, static and from its slots
  abbrev pub element_attributes : List (List (Attribute K)) → List DocAttribute → List TemplateAttribute → List DocAttribute
  element_attributes given all [] = all
  element_attributes given all (fixed name namespace value ∷ rest) =
      element_attributes given (with_attribute all (record { name = name; namespace = namespace; value = value })) rest
  element_attributes given all (from_slot k ∷ rest) = element_attributes given (given_attributes all (attributes_in given k)) rest

  -- the names that an element listens to
  abbrev pub element_listeners : List (List (Attribute K)) → List Text → List TemplateAttribute → List Text
  element_listeners given all [] = all
  element_listeners given all (fixed name namespace value ∷ rest) = element_listeners given all rest
  element_listeners given all (from_slot k ∷ rest) = element_listeners given (given_listeners all (attributes_in given k)) rest

  -- the nodes of a template, where slot gives those of a numbered slot at a place
  abbrev pub nodes_view : List (Place × Kind × ℕ) → Template → Place → List (List (Attribute K)) → (ℕ → Place → Forest) → List ℕ → ℕ
      → TemplateNodes → Forest
  nodes_view numbers whole above given slot up i no_nodes = Empty
  nodes_view numbers whole above given slot up i (element_node tag namespace attributes children rest) =
      Node
      (number_at numbers (place_in whole above up i) an_element)
      (DocElement tag namespace (element_attributes given [] attributes) (element_listeners given [] attributes))
      (nodes_view numbers whole above given slot (up ++ i ∷ []) 0 children)
      (nodes_view numbers whole above given slot up (i + 1) rest)
  nodes_view numbers whole above given slot up i (text_node text rest) =
      Node
      (number_at numbers (place_in whole above up i) a_static_text)
      (DocText text)
      Empty
      (nodes_view numbers whole above given slot up (i + 1) rest)
  nodes_view numbers whole above given slot up i (slot_node k rest) =
      join_rows (slot k (place_in whole above up i)) (nodes_view numbers whole above given slot up (i + 1) rest)

  abbrev mutual
    -- what a tree shows
    pub tree_view : Side K → (ℕ → Forest) → Place → Tree K → Forest
    tree_view side inner above (block template given slots) =
        nodes_view side.numbers template above given (λ k place. slots_view side inner slots k place) [] 0 template.roots

    -- what the slot with a number shows
    pub slots_view : Side K → (ℕ → Forest) → Slots K → ℕ → Place → Forest
    slots_view side inner no_slots k place = Empty
    slots_view side inner (more_slots v rest) zero place = slot_view side inner v place
    slots_view side inner (more_slots v rest) (suc k) place = slots_view side inner rest k place

    -- what stands in a slot
    pub slot_view : Side K → (ℕ → Forest) → Slot K → Place → Forest
    slot_view side inner (text_slot text) place = leaf (number_at side.numbers place a_text) (DocText text)
    slot_view side inner placeholder_slot place = leaf (number_at side.numbers place a_placeholder) DocPlaceholder
    slot_view side inner (component_slot c) place = child_view inner (child_at side.children place)
    slot_view side inner (fragment_slot no_trees) place = leaf (number_at side.numbers place an_empty_fragment) DocPlaceholder
    slot_view side inner (fragment_slot (more_trees t ts)) place = items_view side inner 0 place (more_trees t ts)

    -- what a fragment's items show
    pub items_view : Side K → (ℕ → Forest) → ℕ → Place → Trees K → Forest
    items_view side inner i place no_trees = Empty
    items_view side inner i place (more_trees t ts) =
        join_rows (tree_view side inner (place ++ item i ∷ []) t) (items_view side inner (i + 1) place ts)

  -- what a side shows
  abbrev pub side_view : (ℕ → Forest) → Side K → Forest
  side_view inner side = elim side.output [ None ↦ Empty | Some tree ↦ tree_view side inner [] tree ]

  -- a suspense boundary gives the nodes of the side that shows
  abbrev pub scope_view : (ℕ → Forest) → Option (Scope K) → Forest
  scope_view inner None = Empty
  scope_view inner (Some x) = elim x.shows [ None ↦ Empty | Some name ↦ side_view inner (side_of x name) ]

  -- at most n scopes deep
  abbrev pub view_within : State K → ℕ → ℕ → Forest
  view_within w zero s = Empty
  view_within w (suc n) s = scope_view (λ t. view_within w n t) (at w.scopes s)

  -- the nodes of a scope: no way down is longer than there are scopes
  abbrev pub nodes_of : State K → ℕ → Forest
  nodes_of w s = view_within w (length w.scopes) s

  -- the document that shows
  abbrev pub view : State K → Forest
  view w = nodes_of w 0
