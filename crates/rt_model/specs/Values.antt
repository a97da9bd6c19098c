-- Equal trees and components by value, and when a fed component keeps its output.
use Rattle.std.specs.Prelude.{Bool, true, false, ◌&&◌, nat_eq}
use Rattle.rt_model.specs.Lists.{same_numbers, same_option, same_list}
use Rattle.rt_model.specs.Tree.{Types, same_template, CapturedError, AttributeValue, text_value, no_value, listener, Attribute, Tree, block, Slots, no_slots, more_slots, Slot, text_slot, placeholder_slot, component_slot, fragment_slot, Trees, no_trees, more_trees, VComponent, Own, Root, Fragment, ErrorBoundary, SuspenseBoundary, Element, rendered, failed, suspended}
use Rattle.rt_model.specs.World.{Application}

-- equal errors: their serial number and text
abbrev pub same_error : CapturedError → CapturedError → Bool
same_error a b = nat_eq a.serial b.serial && same_numbers a.text b.text

module _ {K : Types} (app : Application K) where
  -- equal values of attributes
  abbrev pub same_attribute_value : AttributeValue K → AttributeValue K → Bool
  same_attribute_value (text_value t) (text_value u) = same_numbers t u
  same_attribute_value no_value no_value = true
  same_attribute_value (listener s h) (listener t i) = nat_eq s t && app.same_handler h i
  same_attribute_value _ _ = false

  -- equal attributes
  abbrev pub same_given : Attribute K → Attribute K → Bool
  same_given a b = same_numbers a.name b.name && same_option same_numbers a.namespace b.namespace && same_attribute_value a.value b.value

  -- a component of the application with its props
  abbrev pub same_call : K.Component × K.Props → K.Component × K.Props → Bool
  same_call a b = app.same_component a.0 b.0 && app.same_props a.1 b.1

  abbrev mutual
    -- equal trees
    pub same_tree : Tree K → Tree K → Bool
    same_tree (block t a ss) (block u b us) = same_template t u && same_list (same_list (λ x y. same_given x y)) a b && same_slots ss us

    -- equal slots, each with the one of its number
    pub same_slots : Slots K → Slots K → Bool
    same_slots no_slots no_slots = true
    same_slots (more_slots v ss) (more_slots u us) = same_slot v u && same_slots ss us
    same_slots _ _ = false

    -- equal contents of a slot
    pub same_slot : Slot K → Slot K → Bool
    same_slot (text_slot t) (text_slot u) = same_numbers t u
    same_slot placeholder_slot placeholder_slot = true
    same_slot (component_slot c) (component_slot d) = same_by_value c d
    same_slot (fragment_slot ts) (fragment_slot us) = same_trees ts us
    same_slot _ _ = false

    -- equal items of fragments
    pub same_trees : Trees K → Trees K → Bool
    same_trees no_trees no_trees = true
    same_trees (more_trees t ts) (more_trees u us) = same_tree t u && same_trees ts us
    same_trees _ _ = false

    -- equal components with equal props
    pub same_by_value : VComponent K → VComponent K → Bool
    same_by_value (Own a p) (Own b q) = same_call (a, p) (b, q)
    same_by_value (Root a p) (Root b q) = same_call (a, p) (b, q)
    same_by_value (Fragment t) (Fragment u) = same_element t u
    same_by_value (ErrorBoundary t h) (ErrorBoundary u i) = same_element t u && same_option (λ x y. same_call x y) h i
    same_by_value (SuspenseBoundary t f) (SuspenseBoundary u g) = same_element t u && same_option (λ x y. same_call x y) f g
    same_by_value _ _ = false

    -- equal answers of bodies
    pub same_element : Element K → Element K → Bool
    same_element (rendered t) (rendered u) = same_tree t u
    same_element (failed e) (failed f) = same_error e f
    same_element (suspended s t) (suspended r u) = nat_eq s r && nat_eq t u
    same_element _ _ = false

  -- the same component, whatever its props: what may be fed
  abbrev pub is_same_component : VComponent K → VComponent K → Bool
  is_same_component (Own a p) (Own b q) = app.same_component a b
  is_same_component (Root a p) (Root b q) = true
  is_same_component (Fragment t) (Fragment u) = true
  is_same_component (ErrorBoundary t h) (ErrorBoundary u i) = true
  is_same_component (SuspenseBoundary t f) (SuspenseBoundary u g) = true
  is_same_component _ _ = false

  -- whether a component that is fed these new props keeps its output
  abbrev pub keeps_output : VComponent K → VComponent K → Bool
  keeps_output (Own a p) (Own b q) = app.same_component a b && app.memoize a p q
  keeps_output (Root a p) (Root b q) = same_call (a, p) (b, q)
  keeps_output (Fragment t) (Fragment u) = same_element t u
  keeps_output (SuspenseBoundary t f) (SuspenseBoundary u g) = same_element t u && same_option (λ x y. same_call x y) f g
  keeps_output _ _ = false
