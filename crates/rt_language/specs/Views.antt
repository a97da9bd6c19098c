-- The template of a view, what it puts in the template's slots, and the tree of both.
use Rattle.std.specs.Prelude.{ℕ, zero, suc, ◌+◌, Bool, true, false, List, [], ◌∷◌, ◌++◌, map, Option, Some, None, pos, nat_le, if◌then◌else◌}
use Rattle.rt_model.specs.Lists.{Text}
use Rattle.rt_model.specs.Tree.{TemplateAttribute, fixed, from_slot, TemplateNodes, no_nodes, element_node, text_node, slot_node, Template, node_slots, attribute_slots, paths_of, AttributeValue, text_value, no_value, listener, Attribute, Tree, block, Slots, no_slots, more_slots, Slot, text_slot, placeholder_slot, component_slot, fragment_slot, Trees, no_trees, more_trees, Own, Fragment, ErrorBoundary, SuspenseBoundary, placeholder_tree, rendered}
use Rattle.rt_model.specs.Program.{Program, done, current_scope}
use Rattle.rt_language.specs.Syntax.{ComponentUse, ViewAttribute, StaticAttribute, SlotAttribute, ListenerAttribute, View, NoViews, TextView, ElementView, SlotView, ViewSlot, TextOf, UseOf, ListOf, PickOf, FragmentOf, ErrorBoundaryOf, SuspenseBoundaryOf, Hole}
use Rattle.rt_language.specs.Values.{Value, NoValue, NumberValue, TextValue, CellValue, TaskValue, is_true, text_of, item_count}
use Rattle.author_programs.specs.Sequence.{go_on}
use Rattle.rt_language.specs.Expressions.{SourceTypes, Caller, evaluate, evaluate_all}
use Rattle.rt_language.specs.Statements.{doing}

-- the template

-- how many attribute slots an element has of its own
abbrev pub own_slots : List ViewAttribute → ℕ
own_slots [] = 0
own_slots (StaticAttribute name value ∷ rest) = own_slots rest
own_slots (SlotAttribute name value ∷ rest) = own_slots rest + 1
own_slots (ListenerAttribute name action arguments ∷ rest) = own_slots rest + 1

-- how many attribute slots a view has
abbrev pub attribute_slots_of : View → ℕ
attribute_slots_of NoViews = 0
attribute_slots_of (TextView text rest) = attribute_slots_of rest
attribute_slots_of (ElementView tag namespace attributes kids rest) =
    own_slots attributes + (attribute_slots_of kids + attribute_slots_of rest)
attribute_slots_of (SlotView slot rest) = attribute_slots_of rest

-- how many node slots a view has
abbrev pub node_slots_of : View → ℕ
node_slots_of NoViews = 0
node_slots_of (TextView text rest) = node_slots_of rest
node_slots_of (ElementView tag namespace attributes kids rest) = node_slots_of kids + node_slots_of rest
node_slots_of (SlotView slot rest) = node_slots_of rest + 1

-- the attributes of a template's element, whose first slot has this number
abbrev pub template_attributes : ℕ → List ViewAttribute → List TemplateAttribute
template_attributes a [] = []
template_attributes a (StaticAttribute name value ∷ rest) = fixed name None value ∷ template_attributes a rest
template_attributes a (SlotAttribute name value ∷ rest) = from_slot a ∷ template_attributes (a + 1) rest
template_attributes a (ListenerAttribute name action arguments ∷ rest) = from_slot a ∷ template_attributes (a + 1) rest

-- the nodes of a template, whose first node slot and first attribute slot have these numbers
abbrev pub template_nodes : ℕ → ℕ → View → TemplateNodes
template_nodes n a NoViews = no_nodes
template_nodes n a (TextView text rest) = text_node text (template_nodes n a rest)
template_nodes n a (ElementView tag namespace attributes kids rest) =
    element_node
    tag
    namespace
    (template_attributes a attributes)
    (template_nodes n (a + own_slots attributes) kids)
    (template_nodes (n + node_slots_of kids) (a + (own_slots attributes + attribute_slots_of kids)) rest)
template_nodes n a (SlotView slot rest) = slot_node n (template_nodes (n + 1) a rest)

-- a step of a path is a byte: past the 256th node of a row it is that of the 256th, and no tree with such a row passes the node test
abbrev pub step_of : ℕ → ℕ
step_of i = if nat_le i 255 then i else 255

-- paths whose steps are bytes
abbrev pub in_bytes : List (List ℕ) → List (List ℕ)
in_bytes paths = map (map step_of) paths

-- the template of these roots, with the paths that they have, in bytes
abbrev pub template_in_bytes : TemplateNodes → Template
template_in_bytes roots =
    record {
      roots = roots;
      node_paths = in_bytes (paths_of (node_slots [] 0 roots));
      attribute_paths = in_bytes (paths_of (attribute_slots [] 0 roots));
    }

-- what stands in the slots

-- what a view puts in its slots, in document order
pub record Filling : Type 0 where
  -- of each attribute slot
  pub attributes : List (List (Attribute SourceTypes))
  -- of each node slot
  pub slots : List (Slot SourceTypes)

-- no slot
abbrev pub nothing_filled : Filling
nothing_filled = record { attributes = []; slots = [] }

-- the slots of one part and then those of another
abbrev pub filled_on : Filling → Filling → Filling
filled_on a b = record { attributes = a.attributes ++ b.attributes; slots = a.slots ++ b.slots }

-- what an attribute is worth: the text of a value, and nothing of none
abbrev pub attribute_value : Value → AttributeValue SourceTypes
attribute_value NoValue = no_value
attribute_value (NumberValue n) = text_value (text_of (NumberValue n))
attribute_value (TextValue t) = text_value t
attribute_value (CellValue c) = text_value (text_of (CellValue c))
attribute_value (TaskValue t) = text_value (text_of (TaskValue t))

-- one attribute, without a namespace
abbrev pub attribute_of : Text → AttributeValue SourceTypes → Attribute SourceTypes
attribute_of name value = record { name = name; namespace = None; value = value }

-- one more attribute slot, of one attribute, before others
abbrev pub with_attribute : Attribute SourceTypes → List (List (Attribute SourceTypes)) → List (List (Attribute SourceTypes))
with_attribute a slots = (a ∷ []) ∷ slots

-- what the attribute slots of an element give, in order
abbrev pub given_by : Caller → List Value → List ViewAttribute → Program SourceTypes (List (List (Attribute SourceTypes)))
given_by by held [] = done []
given_by by held (StaticAttribute name value ∷ rest) = given_by by held rest
given_by by held (SlotAttribute name value ∷ rest) =
    go_on
    (evaluate by held value)
    (λ v. go_on (given_by by held rest) (λ slots. done (with_attribute (attribute_of name (attribute_value v)) slots)))
given_by by held (ListenerAttribute name action arguments ∷ rest) =
    go_on
    (evaluate_all by held arguments)
    (λ vs. current_scope (λ s.
    go_on (given_by by held rest) (λ slots. done (with_attribute (attribute_of name (listener s (doing action vs))) slots))))

-- a component and its props, where one is named
abbrev pub use_or_none : Caller → List Value → Option ComponentUse → Program SourceTypes (Option (ℕ × List Value))
use_or_none by held None = done None
use_or_none by held (Some u) = go_on (evaluate_all by held u.props) (λ props. done (Some (u.component, props)))

-- slots by number from 0
abbrev pub slots_from : List (Slot SourceTypes) → Slots SourceTypes
slots_from [] = no_slots
slots_from (v ∷ vs) = more_slots v (slots_from vs)

-- the tree of a view whose slots are filled; a view of no node is a placeholder
abbrev pub tree_with : View → Filling → Tree SourceTypes
tree_with NoViews filling = placeholder_tree
tree_with (TextView text rest) filling =
    block (template_in_bytes (template_nodes 0 0 (TextView text rest))) filling.attributes (slots_from filling.slots)
tree_with (ElementView tag namespace attributes kids rest) filling =
    block (template_in_bytes (template_nodes 0 0 (ElementView tag namespace attributes kids rest))) filling.attributes
    (slots_from filling.slots)
tree_with (SlotView slot rest) filling =
    block (template_in_bytes (template_nodes 0 0 (SlotView slot rest))) filling.attributes (slots_from filling.slots)

-- a program that comes to a tree
abbrev pub tree_of : View → Program SourceTypes Filling → Program SourceTypes (Tree SourceTypes)
tree_of view filling = go_on filling (λ f. done (tree_with view f))

-- so many trees, numbered from i on
abbrev pub items_from : (ℕ → Program SourceTypes (Tree SourceTypes)) → ℕ → ℕ → Program SourceTypes (Trees SourceTypes)
items_from item i zero = done no_trees
items_from item i (suc more) = go_on (item i) (λ t. go_on (items_from item (i + 1) more) (λ ts. done (more_trees t ts)))

-- a view has no node
abbrev pub is_empty : View → Bool
is_empty NoViews = true
is_empty (TextView text rest) = false
is_empty (ElementView tag namespace attributes kids rest) = false
is_empty (SlotView slot rest) = false

-- a fragment of the view that was picked: no item where it is empty
abbrev pub picked : Bool → Program SourceTypes (Tree SourceTypes) → Program SourceTypes (Slot SourceTypes)
picked true tree = done (fragment_slot no_trees)
picked false tree = go_on tree (λ t. done (fragment_slot (more_trees t no_trees)))

unfoldable mutual
  -- a view's slots, filled in document order
  pub fill : Caller → List Value → View → Program SourceTypes Filling
  fill by held NoViews = done nothing_filled
  fill by held (TextView text rest) = fill by held rest
  fill by held (ElementView tag namespace attributes kids rest) =
      go_on
      (given_by by held attributes)
      (λ own. go_on (fill by held kids) (λ below.
      go_on (fill by held rest) (λ after. done (filled_on (record { attributes = own; slots = [] }) (filled_on below after)))))
  fill by held (SlotView slot rest) =
      go_on (fill_slot by held slot) (λ v.
      go_on (fill by held rest) (λ after. done (filled_on (record { attributes = []; slots = v ∷ [] }) after)))

  -- what stands in one slot
  pub fill_slot : Caller → List Value → ViewSlot → Program SourceTypes (Slot SourceTypes)
  fill_slot by held (TextOf e) = go_on (evaluate by held e) (λ v. done (text_slot (text_of v)))
  fill_slot by held (UseOf u) = go_on (evaluate_all by held u.props) (λ props. done (component_slot (Own u.component props)))
  fill_slot by held (ListOf count item) =
      go_on
      (evaluate by held count)
      (λ v. go_on (items_from (λ i. tree_of item (fill by (held ++ NumberValue (pos i) ∷ []) item)) 0 (item_count v)) (λ items.
      done (fragment_slot items)))
  fill_slot by held (PickOf test chosen other) =
      go_on
      (evaluate by held test)
      (λ v. elim (is_true v) [
        | true ↦ picked (is_empty chosen) (tree_of chosen (fill by held chosen))
        | false ↦ picked (is_empty other)
            (tree_of other (fill by held other))
      ])
  fill_slot by held (FragmentOf children) =
      go_on (tree_of children (fill by held children)) (λ t. done (component_slot (Fragment (rendered t))))
  fill_slot by held (ErrorBoundaryOf kids handler) =
      go_on
      (tree_of kids (fill by held kids))
      (λ t. go_on (use_or_none by held handler) (λ h. done (component_slot (ErrorBoundary (rendered t) h))))
  fill_slot by held (SuspenseBoundaryOf kids fallback) =
      go_on
      (tree_of kids (fill by held kids))
      (λ t. go_on (use_or_none by held fallback) (λ h. done (component_slot (SuspenseBoundary (rendered t) h))))
  fill_slot by held Hole = done placeholder_slot
