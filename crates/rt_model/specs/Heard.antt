-- The listeners that an event calls: found by climbing the whole of what shows.
use Rattle.std.specs.Prelude.{ℕ, zero, suc, ◌+◌, Bool, true, false, ◌&&◌, nat_eq, List, [], ◌∷◌, ◌++◌, length, Option, Some, None, if◌then◌else◌}
use Rattle.rt_model.specs.Lists.{Text, at, first_of, backwards, same_numbers}
use Rattle.rt_model.specs.Tree.{Types, TemplateAttribute, fixed, from_slot, TemplateNodes, no_nodes, element_node, text_node, slot_node, Template, AttributeValue, text_value, no_value, listener, Attribute, Tree, block, Slots, no_slots, more_slots, Slot, text_slot, placeholder_slot, component_slot, fragment_slot, Trees, no_trees, more_trees, item, Place, same_place, Kind, an_element, a_static_text, a_text, a_placeholder, an_empty_fragment, same_kind, place_in, attributes_in}
use Rattle.rt_model.specs.State.{Side, Scope, State, side_of}
use Rattle.rt_model.specs.Run.{child_at}

-- the number of a place, zero where it has none
abbrev pub number_at : List (Place × Kind × ℕ) → Place → Kind → ℕ
number_at [] p k = 0
number_at (e ∷ es) p k = if same_kind e.1 k && same_place e.0 p then e.2 else number_at es p k

-- an attribute's name matches where its bytes from the third on are the event's name
abbrev pub matches : Text → Text → Bool
matches [] event = false
matches (a ∷ []) event = false
matches (a ∷ b ∷ rest) event = same_numbers rest event

-- a listener: the scope that it belongs to and its handler
pub record Listener (K : Types) : Type 0 where
  -- it is called in this scope
  pub origin : ℕ
  pub handler : K.Handler

module _ (K : Types) where
  -- the attribute slots of a node and of each element above it, innermost first
  abbrev pub Climb : Type 0
  Climb = List (List (List (Attribute K)))

module _ {K : Types} where
  -- the attribute slots of an element stand around what was found in it
  abbrev pub below_element : List (List (Attribute K)) → Option (Climb K) → Option (Climb K)
  below_element slots None = None
  below_element slots (Some found) = Some (found ++ slots ∷ [])

  -- what the attribute slots of an element give
  abbrev pub slots_on : List (List (Attribute K)) → List TemplateAttribute → List (List (Attribute K))
  slots_on given [] = []
  slots_on given (fixed name namespace value ∷ rest) = slots_on given rest
  slots_on given (from_slot k ∷ rest) = attributes_in given k ∷ slots_on given rest

  -- a text or placeholder with that number has no slots of its own
  abbrev pub leaf_climb : ℕ → ℕ → Option (Climb K)
  leaf_climb number n = if nat_eq n number then Some ([] ∷ []) else None

  -- the climb from a number among a template's nodes
  abbrev pub find_nodes : List (Place × Kind × ℕ) → ℕ → Template → Place → List (List (Attribute K)) → (ℕ → Place → Option (Climb K))
      → List ℕ → ℕ → TemplateNodes → Option (Climb K)
  find_nodes numbers number whole above given slot up i no_nodes = None
  find_nodes numbers number whole above given slot up i (element_node tag namespace attributes children rest) =
      first_of
      (if nat_eq (number_at numbers (place_in whole above up i) an_element) number
      then Some (slots_on given attributes ∷ [])
      else below_element (slots_on given attributes) (find_nodes numbers number whole above given slot (up ++ i ∷ []) 0 children))
      (find_nodes numbers number whole above given slot up (i + 1) rest)
  find_nodes numbers number whole above given slot up i (text_node text rest) =
      first_of
      (leaf_climb number (number_at numbers (place_in whole above up i) a_static_text))
      (find_nodes numbers number whole above given slot up (i + 1) rest)
  find_nodes numbers number whole above given slot up i (slot_node k rest) =
      first_of (slot k (place_in whole above up i)) (find_nodes numbers number whole above given slot up (i + 1) rest)

  -- the climb from a number below a child scope
  abbrev pub find_child : (ℕ → Option (Climb K)) → Option ℕ → Option (Climb K)
  find_child inner None = None
  find_child inner (Some t) = inner t

  abbrev mutual
    -- the climb from a number in a tree
    pub find_tree : Side K → ℕ → (ℕ → Option (Climb K)) → Place → Tree K → Option (Climb K)
    find_tree side number inner above (block template given slots) =
        find_nodes side.numbers number template above given (λ k place. find_slots side number inner slots k place) [] 0 template.roots

    -- the climb from a number in the slot with a number
    pub find_slots : Side K → ℕ → (ℕ → Option (Climb K)) → Slots K → ℕ → Place → Option (Climb K)
    find_slots side number inner no_slots k place = None
    find_slots side number inner (more_slots v rest) zero place = find_slot side number inner v place
    find_slots side number inner (more_slots v rest) (suc k) place = find_slots side number inner rest k place

    -- the climb from a number in what stands in a slot
    pub find_slot : Side K → ℕ → (ℕ → Option (Climb K)) → Slot K → Place → Option (Climb K)
    find_slot side number inner (text_slot text) place = leaf_climb number (number_at side.numbers place a_text)
    find_slot side number inner placeholder_slot place = leaf_climb number (number_at side.numbers place a_placeholder)
    find_slot side number inner (component_slot c) place = find_child inner (child_at side.children place)
    find_slot side number inner (fragment_slot no_trees) place = leaf_climb number (number_at side.numbers place an_empty_fragment)
    find_slot side number inner (fragment_slot (more_trees t ts)) place = find_items side number inner 0 place (more_trees t ts)

    -- the climb from a number in a fragment's items
    pub find_items : Side K → ℕ → (ℕ → Option (Climb K)) → ℕ → Place → Trees K → Option (Climb K)
    find_items side number inner i place no_trees = None
    find_items side number inner i place (more_trees t ts) =
        first_of (find_tree side number inner (place ++ item i ∷ []) t) (find_items side number inner (i + 1) place ts)

  -- the climb from a number on a side
  abbrev pub find_side : ℕ → (ℕ → Option (Climb K)) → Side K → Option (Climb K)
  find_side number inner side = elim side.output [ None ↦ None | Some tree ↦ find_tree side number inner [] tree ]

  -- the climb from a number in what a scope shows
  abbrev pub find_output : ℕ → (ℕ → Option (Climb K)) → Option (Scope K) → Option (Climb K)
  find_output number inner None = None
  find_output number inner (Some x) = elim x.shows [ None ↦ None | Some name ↦ find_side number inner (side_of x name) ]

  -- below a scope, at most n scopes deep
  abbrev pub find_within : State K → ℕ → ℕ → ℕ → Option (Climb K)
  find_within w number zero s = None
  find_within w number (suc n) s = find_output number (λ t. find_within w number n t) (at w.scopes s)

  -- the listener of an attribute, where it is one
  abbrev pub listener_of : AttributeValue K → List (Listener K)
  listener_of (listener origin handler) = record { origin = origin; handler = handler } ∷ []
  listener_of (text_value text) = []
  listener_of no_value = []

  -- the matching listeners of a slot, last first
  abbrev pub all_matching : Text → List (Attribute K) → List (Listener K)
  all_matching event [] = []
  all_matching event (a ∷ rest) = all_matching event rest ++ (if matches a.name event then listener_of a.value else [])

  -- the slot's first attribute with a matching name, where that is a listener
  abbrev pub first_matching : Text → List (Attribute K) → List (Listener K)
  first_matching event [] = []
  first_matching event (a ∷ rest) = if matches a.name event then listener_of a.value else first_matching event rest

  -- an attribute's value is a listener
  abbrev pub is_listener : AttributeValue K → Bool
  is_listener (listener origin handler) = true
  is_listener (text_value text) = false
  is_listener no_value = false

  -- the slot's first matching listener
  abbrev pub first_listener : Text → List (Attribute K) → List (Listener K)
  first_listener event [] = []
  first_listener event (a ∷ rest) = if matches a.name event && is_listener a.value then listener_of a.value else first_listener event rest

  -- the listeners of the elements further out, all that match
  abbrev pub climbing : Text → Climb K → List (Listener K)
  climbing event [] = []
  climbing event (slots ∷ above) = backwards (λ a. all_matching event a) slots ++ climbing event above

  -- the listeners of an event that bubbles, innermost first
  abbrev pub bubbling : Text → Climb K → List (Listener K)
  bubbling event [] = []
  bubbling event (slots ∷ above) = backwards (λ a. first_matching event a) slots ++ climbing event above

  -- the first listener of each slot of an element, in the slots' order
  abbrev pub in_order : Text → List (List (Attribute K)) → List (Listener K)
  in_order event [] = []
  in_order event (a ∷ slots) = first_listener event a ++ in_order event slots

  -- the listeners of an event that doesn't bubble: those of its element
  abbrev pub at_target : Text → Climb K → List (Listener K)
  at_target event [] = []
  at_target event (slots ∷ above) = in_order event slots

  -- the listeners of an element that was found, by whether the event bubbles
  abbrev pub heard_on : Text → Bool → Option (Climb K) → List (Listener K)
  heard_on event bubbles None = []
  heard_on event true (Some found) = bubbling event found
  heard_on event false (Some found) = at_target event found

  -- the listeners in the order in which they are called
  abbrev pub heard : State K → Text → ℕ → Bool → List (Listener K)
  heard w event element bubbles =
      heard_on event bubbles (if nat_eq element 0 then None else find_within w element (length w.scopes) 0)
