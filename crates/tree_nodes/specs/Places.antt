-- The places of a tree: where its document's nodes stand, and its component slots.
use Rattle.std.specs.Prelude.{◌≢◌, ℕ, ◌+◌, List, [], ◌∷◌, ◌++◌, map}
use Rattle.std.specs.List.{AllPairs, slice_index_or}
use Rattle.tree_nodes.specs.Met.{Met, AtElement, AtAttribute, AtText, AtSlot, met_in}
use Rattle.tree_nodes.specs.declared.template.TemplateParts.{TemplateParts as Template}
use Rattle.tree_nodes.specs.declared.vnode.VNode.{VNode}
use Rattle.tree_nodes.specs.declared.vnode.DynamicNode.TheOpen.{DynamicNode-F, VNode-F}
use Rattle.tree_nodes.specs.declared.vnode.DynamicNode.TheFolds.{fold-VNode, para-VNode}
use Rattle.tree_nodes.specs.declared.vnode.VComponent.{VComponent}

-- one step down to a place: a path in a template, or a position in a fragment
pub data Step : Type 0 where
  InTemplate : (template : Template) → (path : List ℕ) → Step
  InFragment : (position : ℕ) → Step

-- what stands at a place
pub data Kind : Type 0 where
  AnElement : Kind
  AText : Kind
  ATextSlot : Kind
  APlaceholder : Kind
  AnEmptyFragment : Kind

-- the place of one node of the document, with what stands there; two places match where they are equal
abbrev pub NodePlace : Type 0
NodePlace = List Step × Kind

-- what stands below the steps to it
abbrev pub Below : Type 0 → Type 0
Below A = List Step → List A

-- a fragment's items, of which the first has the position k
abbrev pub in_items : {A : Type 0} → List (Below A) → ℕ → Below A
in_items [] k steps = []
in_items (item ∷ rest) k steps = item (steps ++ InFragment k ∷ []) ++ in_items rest (k + 1) steps

-- what stands in one slot, where `values` has that of each
abbrev pub in_value : {A : Type 0} → List (Below A) → ℕ → Below A
in_value values slot steps = slice_index_or values slot (λ below. []) steps

-- the nodes at what is met of a template, where `values` has those of each slot
abbrev pub nodes_met : Template → List (Below NodePlace) → List Met → Below NodePlace
nodes_met template values [] steps = []
nodes_met template values (AtElement path attrs children ∷ ms) steps =
    (steps ++ InTemplate template path ∷ [], AnElement) ∷ nodes_met template values ms steps
nodes_met template values (AtAttribute path id ∷ ms) steps = nodes_met template values ms steps
nodes_met template values (AtText path ∷ ms) steps = (steps ++ InTemplate template path ∷ [], AText) ∷ nodes_met template values ms steps
nodes_met template values (AtSlot path id ∷ ms) steps = in_value values id (steps ++ InTemplate template path ∷ [])
    ++ nodes_met template values ms steps

-- the component slots among what is met of a template
abbrev pub slots_met : {A : Type 0} → Template → List (Below A) → List Met → Below A
slots_met template values [] steps = []
slots_met template values (AtElement path attrs children ∷ ms) steps = slots_met template values ms steps
slots_met template values (AtAttribute path id ∷ ms) steps = slots_met template values ms steps
slots_met template values (AtText path ∷ ms) steps = slots_met template values ms steps
slots_met template values (AtSlot path id ∷ ms) steps = in_value values id (steps ++ InTemplate template path ∷ [])
    ++ slots_met template values ms steps

-- a fragment's nodes, or the one that stands for it where it is empty
abbrev pub fragment_nodes : List (Below NodePlace) → Below NodePlace
fragment_nodes [] steps = (steps, AnEmptyFragment) ∷ []
fragment_nodes (item ∷ rest) steps = in_items (item ∷ rest) 0 steps

-- no two of these places have the same steps
abbrev pub AreApart : {A : Type 0} → List (List Step × A) → Type 0
AreApart places = AllPairs (λ place later. place.0 ≢ later.0) places

-- the place of a component slot, with its component; two places match where their steps are equal
abbrev pub SlotPlace : Type 0 → Type 0
SlotPlace C = List Step × C

-- a value with the component slots in it
abbrev pub Held : Type 0 → Type 0 → Type 0
Held C A = A × Below (SlotPlace C)

-- the component slots in each of several values
abbrev pub held_in : {C A : Type 0} → List (Held C A) → List (Below (SlotPlace C))
held_in values = map (λ value. value.1) values

module _ {P Component Props Value Handler TaskState Effect Payload : Type 0} where
  -- the nodes of one slot's value; those of a component are another scope's
  abbrev pub value_nodes :
      DynamicNode-F P Component Props Value Handler TaskState Effect Payload (Below NodePlace) (Below NodePlace) (Below NodePlace)
      (Below NodePlace) (Below NodePlace) (Below NodePlace) → Below NodePlace
  value_nodes (DynamicNode-F.Text text) steps = (steps, ATextSlot) ∷ []
  value_nodes DynamicNode-F.Placeholder steps = (steps, APlaceholder) ∷ []
  value_nodes (DynamicNode-F.Component below) steps = []
  value_nodes (DynamicNode-F.DynamicNode::Fragment items) steps = fragment_nodes items steps

  -- the nodes of a tree, where those of its slots are known
  abbrev pub tree_nodes :
      VNode-F P Component Props Value Handler TaskState Effect Payload (Below NodePlace) (Below NodePlace) (Below NodePlace)
      (Below NodePlace) (Below NodePlace) (Below NodePlace) → Below NodePlace
  tree_nodes tree steps = nodes_met tree.template tree.dynamic_nodes (met_in tree.template.roots) steps

  -- the places at which a tree has a node of the document, depth first
  abbrev pub node_places : VNode P Component Props Value Handler TaskState Effect Payload → List NodePlace
  node_places tree = fold-VNode P Component Props Value Handler TaskState Effect Payload
      (Below NodePlace) (Below NodePlace) (Below NodePlace) (Below NodePlace) (Below NodePlace) (Below NodePlace)
      value_nodes (λ component steps. []) (λ props steps. []) (λ props steps. []) (λ props steps. []) tree_nodes tree []

  -- the component slots of one slot's value; those below a component are another scope's
  abbrev pub value_slots : {C N E F S T : Type 0}
      → DynamicNode-F P Component Props Value Handler TaskState Effect Payload (Held C N) (Held C C) (Held C E) (Held C F) (Held C S)
      (Held C T) → Below (SlotPlace C)
  value_slots (DynamicNode-F.Text text) steps = []
  value_slots DynamicNode-F.Placeholder steps = []
  value_slots (DynamicNode-F.Component component) steps = (steps, component.0) ∷ []
  value_slots (DynamicNode-F.DynamicNode::Fragment items) steps = in_items (held_in items) 0 steps

  -- the component slots of a tree, where those in its slots are known
  abbrev pub tree_slots : {C N E F S T : Type 0}
      → VNode-F P Component Props Value Handler TaskState Effect Payload (Held C N) (Held C C) (Held C E) (Held C F) (Held C S) (Held C T)
      → Below (SlotPlace C)
  tree_slots tree steps = slots_met tree.template (held_in tree.dynamic_nodes) (met_in tree.template.roots) steps

  -- the places at which a tree has a component slot, depth first, each with its component
  abbrev pub slot_places : VNode P Component Props Value Handler TaskState Effect Payload
      → List (SlotPlace (VComponent P Component Props Value Handler TaskState Effect Payload))
  slot_places tree = para-VNode P Component Props Value Handler TaskState Effect Payload
      (Below (SlotPlace (VComponent P Component Props Value Handler TaskState Effect Payload)))
      (Below (SlotPlace (VComponent P Component Props Value Handler TaskState Effect Payload)))
      (Below (SlotPlace (VComponent P Component Props Value Handler TaskState Effect Payload)))
      (Below (SlotPlace (VComponent P Component Props Value Handler TaskState Effect Payload)))
      (Below (SlotPlace (VComponent P Component Props Value Handler TaskState Effect Payload)))
      (Below (SlotPlace (VComponent P Component Props Value Handler TaskState Effect Payload)))
      value_slots (λ component steps. []) (λ props steps. []) (λ props steps. []) (λ props steps. []) tree_slots tree []

  -- no place of a tree's nodes stands twice, and none of its component slots
  abbrev pub HasPlacesApart : VNode P Component Props Value Handler TaskState Effect Payload → Type 0
  HasPlacesApart tree = AreApart (node_places tree) × AreApart (slot_places tree)
