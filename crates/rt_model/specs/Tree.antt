-- What a component answers: templates, trees with their slots, elements; and the places of a tree.
use Rattle.std.specs.Prelude.{ℕ, zero, suc, ◌+◌, Bool, true, false, ◌&&◌, nat_eq, List, [], ◌∷◌, ◌++◌, Option}
use Rattle.rt_model.specs.Lists.{Text, same_numbers, same_option, same_list}

-- the types that an application brings
pub record Types : Type 1 where
  -- names the application's components
  pub Component : Type 0
  -- what a component is handed
  pub Props : Type 0
  -- what cells, hooks and contexts hold
  pub Value : Type 0
  -- what a listener does when it hears an event
  pub Handler : Type 0
  -- where a task stands between two polls
  pub TaskState : Type 0
  -- what is done after a render, as a clean-up or as a callback
  pub Effect : Type 0
  -- what an event carries
  pub Payload : Type 0

-- an attribute of a template's element: it stands in the template, or an attribute slot gives it
pub data TemplateAttribute : Type 0 where
  fixed : (name : Text) (namespace : Option Text) (value : Text) → TemplateAttribute
  from_slot : (slot : ℕ) → TemplateAttribute

-- a row of a template's nodes: each node with its children and the nodes after it
pub data TemplateNodes : Type 0 where
  no_nodes : TemplateNodes
  element_node : (tag : Text) (namespace : Option Text) (attributes : List TemplateAttribute) (children rest : TemplateNodes)
      → TemplateNodes
  text_node : (text : Text) (rest : TemplateNodes) → TemplateNodes
  slot_node : (slot : ℕ) (rest : TemplateNodes) → TemplateNodes

-- the roots, and the paths of the node slots and of the elements of the attribute slots
pub record Template : Type 0 where
  pub roots : TemplateNodes
  pub node_paths : List (List ℕ)
  pub attribute_paths : List (List ℕ)

-- equal attributes of templates
abbrev pub same_attribute : TemplateAttribute → TemplateAttribute → Bool
same_attribute (fixed n a v) (fixed m b u) = same_numbers n m && same_option same_numbers a b && same_numbers v u
same_attribute (from_slot k) (from_slot j) = nat_eq k j
same_attribute _ _ = false

-- equal rows of a template's nodes
abbrev pub same_nodes : TemplateNodes → TemplateNodes → Bool
same_nodes no_nodes no_nodes = true
same_nodes (element_node t n a k r) (element_node u m b l q) =
    same_numbers t u && same_option same_numbers n m && same_list same_attribute a b && same_nodes k l && same_nodes r q
same_nodes (text_node t r) (text_node u q) = same_numbers t u && same_nodes r q
same_nodes (slot_node i r) (slot_node j q) = nat_eq i j && same_nodes r q
same_nodes _ _ = false

-- templates are equal by value
abbrev pub same_template : Template → Template → Bool
same_template t u =
    same_nodes t.roots u.roots && same_list same_numbers t.node_paths u.node_paths
    && same_list same_numbers t.attribute_paths u.attribute_paths

-- an error that a body made; its serial number tells it from others
pub record CapturedError : Type 0 where
  pub serial : ℕ
  pub text : Text

-- what an attribute is worth: a text, nothing, or a listener with the scope that it belongs to
pub data AttributeValue (K : Types) : Type 0 where
  text_value : (text : Text) → AttributeValue K
  no_value : AttributeValue K
  listener : (origin : ℕ) (handler : K.Handler) → AttributeValue K

-- an attribute that a slot gives
pub record Attribute (K : Types) : Type 0 where
  pub name : Text
  pub namespace : Option Text
  pub value : AttributeValue K

mutual
  -- a template with its attribute slots and its node slots
  pub data Tree (K : Types) : Type 0 where
    block : (template : Template) → (attributes : List (List (Attribute K))) → (slots : Slots K) → Tree K

  -- a tree's node slots, by number from 0
  pub data Slots (K : Types) : Type 0 where
    no_slots : Slots K
    more_slots : (first : Slot K) → (rest : Slots K) → Slots K

  -- what stands in a node slot
  pub data Slot (K : Types) : Type 0 where
    text_slot : (text : Text) → Slot K
    placeholder_slot : Slot K
    component_slot : (component : VComponent K) → Slot K
    fragment_slot : (items : Trees K) → Slot K

  -- the items of a fragment, in order
  pub data Trees (K : Types) : Type 0 where
    no_trees : Trees K
    more_trees : (first : Tree K) → (rest : Trees K) → Trees K

  -- a component with its props: the application's own ones and the built-in ones
  pub data VComponent (K : Types) : Type 0 where
    Own : (component : K.Component) → (props : K.Props) → VComponent K
    Root : (component : K.Component) → (props : K.Props) → VComponent K
    Fragment : (children : Element K) → VComponent K
    ErrorBoundary : (children : Element K) → (handler : Option (K.Component × K.Props)) → VComponent K
    SuspenseBoundary : (children : Element K) → (fallback : Option (K.Component × K.Props)) → VComponent K

  -- a body's answer
  pub data Element (K : Types) : Type 0 where
    rendered : (tree : Tree K) → Element K
    failed : (error : CapturedError) → Element K
    suspended : (origin task : ℕ) → Element K

-- a step of a place: a template with a path in it, or a position in a fragment
pub data Step : Type 0 where
  inside : (template : Template) (path : List ℕ) → Step
  item : (position : ℕ) → Step

-- where something stands in a scope's tree, from the root's step down
abbrev pub Place : Type 0
Place = List Step

-- equal steps
abbrev pub same_step : Step → Step → Bool
same_step (inside t p) (inside u q) = same_numbers p q && same_template t u
same_step (item i) (item j) = nat_eq i j
same_step _ _ = false

-- equal places
abbrev pub same_place : Place → Place → Bool
same_place [] [] = true
same_place (a ∷ steps) (b ∷ others) = same_step a b && same_place steps others
same_place _ _ = false

-- what kind of document node stands at a place
pub data Kind : Type 0 where
  an_element : Kind
  a_static_text : Kind
  a_text : Kind
  a_placeholder : Kind
  an_empty_fragment : Kind

-- equal kinds of document nodes
abbrev pub same_kind : Kind → Kind → Bool
same_kind an_element an_element = true
same_kind a_static_text a_static_text = true
same_kind a_text a_text = true
same_kind a_placeholder a_placeholder = true
same_kind an_empty_fragment an_empty_fragment = true
same_kind _ _ = false

-- what stands at a place: one document node, or a component
pub data Spot (K : Types) : Type 0 where
  node_at : (place : Place) → (kind : Kind) → Spot K
  component_at : (place : Place) → (component : VComponent K) → Spot K

-- the place of a template's node below a place: up is its parent's path, i its position there
abbrev pub place_in : Template → Place → List ℕ → ℕ → Place
place_in whole above up i = above ++ inside whole (up ++ i ∷ []) ∷ []

-- a template of one slot, which is its root
abbrev pub slot_template : Template
slot_template = record { roots = slot_node 0 no_nodes; node_paths = (0 ∷ []) ∷ []; attribute_paths = [] }

module _ {K : Types} where
  -- the template of a tree
  abbrev pub template_of : Tree K → Template
  template_of (block template attributes slots) = template

  -- what a tree's attribute slots give
  abbrev pub attributes_of : Tree K → List (List (Attribute K))
  attributes_of (block template attributes slots) = attributes

  -- the node slots of a tree
  abbrev pub slots_of : Tree K → Slots K
  slots_of (block template attributes slots) = slots

  -- the first slot, a placeholder where there is none
  abbrev pub first_slot : Slots K → Slot K
  first_slot no_slots = placeholder_slot
  first_slot (more_slots v rest) = v

  -- the slots after the first one
  abbrev pub rest_slots : Slots K → Slots K
  rest_slots no_slots = no_slots
  rest_slots (more_slots v rest) = rest

  -- what the attribute slot with this number gives
  abbrev pub attributes_in : List (List (Attribute K)) → ℕ → List (Attribute K)
  attributes_in [] k = []
  attributes_in (a ∷ slots) zero = a
  attributes_in (a ∷ slots) (suc k) = attributes_in slots k

  -- the spots of a template's nodes depth first, where slot gives those of a numbered slot at a place
  abbrev pub node_spots : Template → Place → (ℕ → Place → List (Spot K)) → List ℕ → ℕ → TemplateNodes → List (Spot K)
  node_spots whole above slot up i no_nodes = []
  node_spots whole above slot up i (element_node tag namespace attributes children rest) =
      node_at (place_in whole above up i) an_element
      ∷
      (node_spots whole above slot (up ++ i ∷ []) 0 children ++ node_spots whole above slot up (i + 1) rest)
  node_spots whole above slot up i (text_node text rest) =
      node_at (place_in whole above up i) a_static_text ∷ node_spots whole above slot up (i + 1) rest
  node_spots whole above slot up i (slot_node k rest) = slot k (place_in whole above up i) ++ node_spots whole above slot up (i + 1) rest

  abbrev mutual
    -- the nodes and the component slots of a tree, depth first
    pub spots : Place → Tree K → List (Spot K)
    spots above (block template attributes slots) = node_spots template above (λ k place. slots_spots slots k place) [] 0 template.roots

    -- the spots of the slot with a number
    pub slots_spots : Slots K → ℕ → Place → List (Spot K)
    slots_spots no_slots k place = []
    slots_spots (more_slots v rest) zero place = slot_spots v place
    slots_spots (more_slots v rest) (suc k) place = slots_spots rest k place

    -- the spots of what stands in a slot
    pub slot_spots : Slot K → Place → List (Spot K)
    slot_spots (text_slot text) place = node_at place a_text ∷ []
    slot_spots placeholder_slot place = node_at place a_placeholder ∷ []
    slot_spots (component_slot component) place = component_at place component ∷ []
    slot_spots (fragment_slot no_trees) place = node_at place an_empty_fragment ∷ []
    slot_spots (fragment_slot (more_trees t ts)) place = item_spots 0 place (more_trees t ts)

    -- the spots of a fragment's items, from a position on
    pub item_spots : ℕ → Place → Trees K → List (Spot K)
    item_spots i place no_trees = []
    item_spots i place (more_trees t ts) = spots (place ++ item i ∷ []) t ++ item_spots (i + 1) place ts

  -- the tree that is one slot
  abbrev pub one_slot : Slot K → Tree K
  one_slot v = block slot_template [] (more_slots v no_slots)

  -- the tree that is one placeholder
  abbrev pub placeholder_tree : Tree K
  placeholder_tree = one_slot placeholder_slot

  -- whether a component is a suspense boundary
  abbrev pub is_suspense_boundary : VComponent K → Bool
  is_suspense_boundary (SuspenseBoundary children fallback) = true
  is_suspense_boundary (Own component props) = false
  is_suspense_boundary (Root component props) = false
  is_suspense_boundary (Fragment children) = false
  is_suspense_boundary (ErrorBoundary children handler) = false

  -- whether a component is an error boundary
  abbrev pub is_error_boundary : VComponent K → Bool
  is_error_boundary (ErrorBoundary children handler) = true
  is_error_boundary (Own component props) = false
  is_error_boundary (Root component props) = false
  is_error_boundary (Fragment children) = false
  is_error_boundary (SuspenseBoundary children fallback) = false

-- the attribute slots of one element, each with the element's path
abbrev pub slots_among : List TemplateAttribute → List ℕ → List (ℕ × List ℕ)
slots_among [] path = []
slots_among (fixed name namespace value ∷ rest) path = slots_among rest path
slots_among (from_slot k ∷ rest) path = (k, path) ∷ slots_among rest path

-- the attribute slots of a row of nodes, each with its element's path
abbrev pub attribute_slots : List ℕ → ℕ → TemplateNodes → List (ℕ × List ℕ)
attribute_slots up i no_nodes = []
attribute_slots up i (element_node tag namespace attributes children rest) =
    slots_among attributes (up ++ i ∷ []) ++ (attribute_slots (up ++ i ∷ []) 0 children ++ attribute_slots up (i + 1) rest)
attribute_slots up i (text_node text rest) = attribute_slots up (i + 1) rest
attribute_slots up i (slot_node k rest) = attribute_slots up (i + 1) rest

-- the node slots of a row of nodes, each with its path
abbrev pub node_slots : List ℕ → ℕ → TemplateNodes → List (ℕ × List ℕ)
node_slots up i no_nodes = []
node_slots up i (element_node tag namespace attributes children rest) = node_slots (up ++ i ∷ []) 0 children ++ node_slots up (i + 1) rest
node_slots up i (text_node text rest) = node_slots up (i + 1) rest
node_slots up i (slot_node k rest) = (k, up ++ i ∷ []) ∷ node_slots up (i + 1) rest

-- the paths alone
abbrev pub paths_of : List (ℕ × List ℕ) → List (List ℕ)
paths_of [] = []
paths_of (e ∷ es) = e.1 ∷ paths_of es

-- the template of these roots, with the paths that they have
abbrev pub template_with : TemplateNodes → Template
template_with roots =
    record { roots = roots; node_paths = paths_of (node_slots [] 0 roots); attribute_paths = paths_of (attribute_slots [] 0 roots) }
