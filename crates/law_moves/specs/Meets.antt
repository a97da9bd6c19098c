-- Two outputs of one side that meet: what the edits from one to the other take as known, place by place, and which numbers they claim.
use Rattle.std.specs.Prelude.{ℕ, zero, suc, ◌+◌, ◌≤◌, true, false, nat_eq, List, [], ◌∷◌, ◌++◌, Option, Some, None, if◌then◌else◌, ◌≡◌}
use Rattle.rt_model.specs.Tree.{Types, TemplateNodes, no_nodes, element_node, text_node, slot_node, Template, same_template, Attribute, Tree, block, template_of, attributes_of, slots_of, Slots, no_slots, more_slots, Slot, text_slot, placeholder_slot, component_slot, fragment_slot, Trees, no_trees, more_trees, item, Place, Kind, an_element, a_static_text, a_text, a_placeholder, an_empty_fragment, place_in}
use Rattle.rt_model.specs.World.{Application}
use Rattle.rt_model.specs.Values.{is_same_component}
use Rattle.rt_model.specs.Run.{child_at}
use Rattle.rt_model.specs.Heard.{number_at}
use Rattle.rt_model.specs.Document.{Content, Forest, Node, count_of}
use Rattle.rt_model.specs.View.{nodes_view, tree_view, slot_view, items_view}
use Rattle.rt_model.specs.Caused.{Written, attributes_written, Both}
use Rattle.law_moves.specs.Settings.{counted, Brings}

-- nothing is refused, and the edits make the row g of the row f
pub record Performs (w : Written) (f g : Forest) (claims : ℕ → ℕ) : Type 0 where
  pub goes_on : w.stopped ≡ false
  pub brings : Brings w.edits f g claims

-- a row that begins with a node
pub record HasNode (row : Forest) : Type 0 where
  pub id : ℕ
  pub content : Content
  pub children : Forest
  pub rest : Forest
  pub is : row ≡ Node id content children rest

-- where templates match, the edits of attributes and listeners make the new ones of the old ones, whatever the slots show
abbrev pub AttributesBring : {K : Types} → List (Place × Kind × ℕ) → Place → Template → List (List (Attribute K))
    → List (List (Attribute K)) → Type 0
AttributesBring numbers above whole new old =
    (slot : ℕ → Place → Forest)
    → Brings
    (attributes_written numbers above whole new old)
    (nodes_view numbers whole above old slot [] 0 whole.roots)
    (nodes_view numbers whole above new slot [] 0 whole.roots)
    (λ i. count_of i (nodes_view numbers whole above new slot [] 0 whole.roots))

-- the nodes of a matched template keep their numbers from one list to the other, and its slots meet
abbrev pub NodesMeet : List (Place × Kind × ℕ) → List (Place × Kind × ℕ) → Template → Place → (ℕ → Place → Type 0) → List ℕ → ℕ
    → TemplateNodes → Type 0
NodesMeet old new whole above slot up i no_nodes = Unit {0}
NodesMeet old new whole above slot up i (element_node tag namespace attributes children rest) =
    (number_at new (place_in whole above up i) an_element ≡ number_at old (place_in whole above up i) an_element)
    ×
    NodesMeet old new whole above slot (up ++ i ∷ []) 0 children
    ×
    NodesMeet old new whole above slot up (i + 1) rest
NodesMeet old new whole above slot up i (text_node text rest) =
    (number_at new (place_in whole above up i) a_static_text ≡ number_at old (place_in whole above up i) a_static_text)
    ×
    NodesMeet old new whole above slot up (i + 1) rest
NodesMeet old new whole above slot up i (slot_node k rest) = slot k (place_in whole above up i)
    × NodesMeet old new whole above slot up (i + 1) rest

-- what they claim of a number: each node's own once, and what slot gives for the slots
abbrev pub nodes_claims : ℕ → List (Place × Kind × ℕ) → Template → Place → (ℕ → Place → ℕ) → List ℕ → ℕ → TemplateNodes → ℕ
nodes_claims n numbers whole above slot up i no_nodes = 0
nodes_claims n numbers whole above slot up i (element_node tag namespace attributes children rest) =
    (counted (nat_eq (number_at numbers (place_in whole above up i) an_element) n) + nodes_claims n numbers whole above slot (up
    ++ i ∷ []) 0 children)
    +
    nodes_claims n numbers whole above slot up (i + 1) rest
nodes_claims n numbers whole above slot up i (text_node text rest) =
    counted (nat_eq (number_at numbers (place_in whole above up i) a_static_text) n) + nodes_claims n numbers whole above slot up (i + 1)
    rest
nodes_claims n numbers whole above slot up i (slot_node k rest) =
    slot k (place_in whole above up i) + nodes_claims n numbers whole above slot up (i + 1) rest

-- what a child scope writes makes its new nodes of its old ones, and claims none but these
pub record ChildBrings {K : Types} (b : Both K) (claims : ℕ → ℕ → ℕ) (t : ℕ) : Type 0 where
  pub performs : Performs (b.under t) (b.old_child t) (b.new_child t) (claims t)
  pub bounded : (n : ℕ) → claims t n ≤ count_of n (b.old_child t) + count_of n (b.new_child t)

-- child says of a fed child scope what its own sweep takes as known
module _ {K : Types} (app : Application K) (b : Both K) (child : ℕ → Type 0) where
  -- that of the child scope at a place, if there is one
  abbrev pub ChildMeets : Option ℕ → Type 0
  ChildMeets None = Unit {0}
  ChildMeets (Some t) = child t

  abbrev mutual
    -- trees of one template meet in its attributes, nodes and slots; an unlike one has a node to be replaced
    pub TreeMeets : Place → Tree K → Tree K → Type 0
    TreeMeets above (block template given slots) old =
        (same_template template (template_of old) ≡ true
        → AttributesBring b.old.numbers above template given (attributes_of old)
        × NodesMeet b.old.numbers b.new.numbers template above (λ k place. SlotsMeet slots (slots_of old) k place) [] 0 template.roots)
        ×
        (same_template template (template_of old) ≡ false → HasNode (tree_view b.old b.old_child above old))

    -- as many slots, and the slot with a number meets
    pub SlotsMeet : Slots K → Slots K → ℕ → Place → Type 0
    SlotsMeet no_slots no_slots k place = Unit {0}
    SlotsMeet no_slots (more_slots u others) k place = ⊥
    SlotsMeet (more_slots v rest) no_slots k place = ⊥
    SlotsMeet (more_slots v rest) (more_slots u others) zero place = SlotMeets place v u
    SlotsMeet (more_slots v rest) (more_slots u others) (suc k) place = SlotsMeet rest others k place

    -- one node keeps its number, a fed child is the same scope, items meet in pairs; what gives way has a node
    pub SlotMeets : Place → Slot K → Slot K → Type 0
    SlotMeets place (text_slot t) (text_slot u) = number_at b.new.numbers place a_text ≡ number_at b.old.numbers place a_text
    SlotMeets place placeholder_slot placeholder_slot =
        number_at b.new.numbers place a_placeholder ≡ number_at b.old.numbers place a_placeholder
    SlotMeets place (component_slot c) (component_slot d) =
        (is_same_component app d c ≡ true → (child_at b.new.children place ≡ child_at b.old.children place)
        × ChildMeets (child_at b.old.children place))
        ×
        (is_same_component app d c ≡ false → HasNode (slot_view b.old b.old_child (component_slot d) place))
    SlotMeets place (fragment_slot no_trees) (fragment_slot no_trees) =
        number_at b.new.numbers place an_empty_fragment ≡ number_at b.old.numbers place an_empty_fragment
    SlotMeets place (fragment_slot (more_trees y ys)) (fragment_slot (more_trees x xs)) =
        ItemsMeet place 0 (more_trees y ys) (more_trees x xs)
    SlotMeets place new old = HasNode (slot_view b.old b.old_child old place)

    -- pair by pair, each new item with a node, as long as both fragments have items
    pub ItemsMeet : Place → ℕ → Trees K → Trees K → Type 0
    ItemsMeet place i no_trees old = Unit {0}
    ItemsMeet place i (more_trees y ys) no_trees = Unit {0}
    ItemsMeet place i (more_trees y ys) (more_trees x xs) =
        TreeMeets (place ++ item i ∷ []) y x
        ×
        HasNode (tree_view b.new b.new_child (place ++ item i ∷ []) y)
        ×
        ItemsMeet place (i + 1) ys xs

-- claims gives what a child scope claims of each number
module _ {K : Types} (app : Application K) (b : Both K) (claims : ℕ → ℕ → ℕ) where
  -- what the child scope at a place claims, if there is one
  abbrev pub child_claims : ℕ → Option ℕ → ℕ
  child_claims n None = 0
  child_claims n (Some t) = claims t n

  -- a slot that gives way claims its old numbers and its new ones
  abbrev pub way_claims : ℕ → Place → Slot K → Slot K → ℕ
  way_claims n place new old = count_of n (slot_view b.old b.old_child old place) + count_of n (slot_view b.new b.new_child new place)

  abbrev mutual
    -- how often the edits of a tree claim a number
    pub tree_claims : ℕ → Place → Tree K → Tree K → ℕ
    tree_claims n above (block template given slots) old =
        if same_template template (template_of old)
        then nodes_claims n b.old.numbers template above (λ k place. slots_claims n slots (slots_of old) k place) [] 0 template.roots
        else count_of n (tree_view b.old b.old_child above old) + count_of n
        (tree_view b.new b.new_child above (block template given slots))

    -- those of the slot with a number
    pub slots_claims : ℕ → Slots K → Slots K → ℕ → Place → ℕ
    slots_claims n no_slots old k place = 0
    slots_claims n (more_slots v rest) no_slots k place = 0
    slots_claims n (more_slots v rest) (more_slots u others) zero place = slot_claims n place v u
    slots_claims n (more_slots v rest) (more_slots u others) (suc k) place = slots_claims n rest others k place

    -- those of a slot
    pub slot_claims : ℕ → Place → Slot K → Slot K → ℕ
    slot_claims n place (text_slot t) (text_slot u) = counted (nat_eq (number_at b.old.numbers place a_text) n)
    slot_claims n place placeholder_slot placeholder_slot = counted (nat_eq (number_at b.old.numbers place a_placeholder) n)
    slot_claims n place (component_slot c) (component_slot d) =
        if is_same_component app d c then child_claims n (child_at b.old.children place)
        else way_claims n place (component_slot c) (component_slot d)
    slot_claims n place (fragment_slot no_trees) (fragment_slot no_trees) =
        counted (nat_eq (number_at b.old.numbers place an_empty_fragment) n)
    slot_claims n place (fragment_slot (more_trees y ys)) (fragment_slot (more_trees x xs)) =
        items_claims n place 0 (more_trees y ys) (more_trees x xs)
    slot_claims n place new old = way_claims n place new old

    -- those of a fragment's items from a position on
    pub items_claims : ℕ → Place → ℕ → Trees K → Trees K → ℕ
    items_claims n place i no_trees old = count_of n (items_view b.old b.old_child i place old)
    items_claims n place i (more_trees y ys) no_trees = count_of n (items_view b.new b.new_child i place (more_trees y ys))
    items_claims n place i (more_trees y ys) (more_trees x xs) =
        tree_claims n (place ++ item i ∷ []) y x + items_claims n place (i + 1) ys xs
