-- What trees with names show is plain.
use Rattle.std.proofs.Common.{ℕ, zero, suc, ◌+◌, ◌<◌, ◌≤◌, ◌^◌, Bool, true, false, ◌&&◌, List, [], ◌∷◌, ◌++◌, ◌≡◌, refl, sym, subst, length, arith}
use Rattle.std.specs.Prelude.{Option, Some, None, if◌then◌else◌}
use Rattle.std.specs.List.{AllByRecursion}
use Rattle.rt_model.specs.Lists.{Text, at, same_numbers, earlier_text}
use Rattle.rt_model.specs.Tree.{Types, TemplateAttribute, fixed, from_slot, TemplateNodes, no_nodes, element_node, text_node, slot_node, Template, AttributeValue, text_value, no_value, listener, Attribute, Tree, block, Slots, no_slots, more_slots, Slot, text_slot, placeholder_slot, component_slot, fragment_slot, Trees, no_trees, more_trees, item, Place, same_place, Kind, same_kind, an_element, a_static_text, a_text, a_placeholder, an_empty_fragment, place_in, attributes_in}
use Rattle.rt_model.specs.World.{last_number}
use Rattle.rt_model.specs.State.{SideName, Side, Scope, State, side_of}
use Rattle.rt_model.specs.Run.{child_at}
use Rattle.rt_model.specs.Document.{DocAttribute, DocText, DocPlaceholder, Forest, Empty, Node, join_rows, leaf, same_key, earlier_key, with_attribute, with_listener}
use Rattle.rt_model.specs.Heard.{number_at}
use Rattle.rt_model.specs.View.{child_view, one_attribute, one_listener, given_attributes, given_listeners, element_attributes, element_listeners, nodes_view, tree_view, slots_view, slot_view, items_view, side_view, scope_view, view_within, nodes_of}
use Rattle.lang_lines.specs.Plain.{AreNameBytes, IsPlainAttribute, IsPlainForest}
use Rattle.lang_lines.specs.Named.{NamedFixed, NamedNodes, NamedGiven, AllGiven, AllSlotsGiven, NamedTree, NamedSlots, NamedSlot, NamedTrees, NamedComponent}
use Rattle.lang_lines.proofs.Names.{name_bytes, space_bytes}

-- a number of at most 64 bits
abbrev pub Small : ℕ → Type 0
Small n = n < 2 ^ 64

-- so has one that is drawn
pub small_drawn : (n : ℕ) → n ≤ last_number → Small n
small_drawn n h = let bound : 2 ^ 64 ≡ last_number + 1 = refl in subst (λ (m : ℕ). n < m) (sym bound) (omega (arith, h))

pub zero_small : Small 0
zero_small = let low : 0 ≤ last_number = omega arith in small_drawn 0 low

-- the numbers of a side
abbrev pub AllSmall : List (Place × Kind × ℕ) → Type 0
AllSmall numbers = AllByRecursion (λ (e : Place × Kind × ℕ). Small e.2) numbers

pub number_small : (numbers : List (Place × Kind × ℕ)) (p : Place) (k : Kind) → AllSmall numbers → Small (number_at numbers p k)
number_small [] p k h = zero_small
number_small (e ∷ es) p k h = either (same_kind e.1 k && same_place e.0 p) (number_small es p k h.1)
  where
    either : (b : Bool) → Small (number_at es p k) → Small (if b then e.2 else number_at es p k)
    either true rest = h.0
    either false rest = rest

pub one_more_small : (numbers : List (Place × Kind × ℕ)) (e : Place × Kind × ℕ) → AllSmall numbers → Small e.2 → AllSmall (numbers ++ e ∷ [])
one_more_small [] e h k = (k, tt)
one_more_small (d ∷ ds) e h k = (h.0, one_more_small ds e h.1 k)

-- one row and then another
pub joined_plain : (f g : Forest) → IsPlainForest f → IsPlainForest g → IsPlainForest (join_rows f g)
joined_plain Empty g h k = k
joined_plain (Node id content children rest) g h k = (h.0, h.1, h.2, h.3, joined_plain rest g h.4 k)

pub text_plain : (n : ℕ) (text : Text) → Small n → IsPlainForest (leaf n (DocText text))
text_plain n text small = (small, tt, refl, tt, tt)

pub placeholder_plain : (n : ℕ) → Small n → IsPlainForest (leaf n DocPlaceholder)
placeholder_plain n small = (small, tt, refl, tt, tt)

-- the attributes of an element

abbrev pub AllPlain : List DocAttribute → Type 0
AllPlain all = AllByRecursion (λ (a : DocAttribute). IsPlainAttribute a) all

abbrev pub AllNames : List Text → Type 0
AllNames all = AllByRecursion (λ (n : Text). AreNameBytes n) all

pub with_attribute_plain : (all : List DocAttribute) (a : DocAttribute) → AllPlain all → IsPlainAttribute a → AllPlain (with_attribute all a)
with_attribute_plain [] a h k = (k, tt)
with_attribute_plain (b ∷ rest) a h k = by_key (same_key b a.name a.namespace) (earlier_key a b) (with_attribute_plain rest a h.1 k)
  where
    by_key : (x y : Bool) → AllPlain (with_attribute rest a) → AllPlain (if x then a ∷ rest else (if y then a ∷ b ∷ rest else b ∷ with_attribute rest a))
    by_key true y later = (k, h.1)
    by_key false true later = (k, h)
    by_key false false later = (h.0, later)

with_listener_named : (all : List Text) (n : Text) → AllNames all → AreNameBytes n → AllNames (with_listener all n)
with_listener_named [] n h k = (k, tt)
with_listener_named (m ∷ ms) n h k = by_order (same_numbers m n) (earlier_text n m) (with_listener_named ms n h.1 k)
  where
    by_order : (x y : Bool) → AllNames (with_listener ms n) → AllNames (if x then m ∷ ms else (if y then n ∷ m ∷ ms else m ∷ with_listener ms n))
    by_order true y later = h
    by_order false true later = (k, h)
    by_order false false later = (h.0, later)

module _ {K : Types} where
  one_attribute_plain : (all : List DocAttribute) (a : Attribute K) (v : AttributeValue K) → AllPlain all → NamedGiven a → AllPlain (one_attribute all a v)
  one_attribute_plain all a (text_value text) h k =
      with_attribute_plain all (record { name = a.name; namespace = a.namespace; value = text }) h (space_bytes a.namespace k.0, name_bytes a.name k.1)
  one_attribute_plain all a no_value h k = h
  one_attribute_plain all a (listener origin handler) h k = h

  one_listener_named : (all : List Text) (a : Attribute K) (v : AttributeValue K) → AllNames all → NamedGiven a → AllNames (one_listener all a v)
  one_listener_named all a (listener origin handler) h k = with_listener_named all a.name h (name_bytes a.name k.1)
  one_listener_named all a (text_value text) h k = h
  one_listener_named all a no_value h k = h

  given_plain : (all : List DocAttribute) (given : List (Attribute K)) → AllPlain all → AllGiven given → AllPlain (given_attributes all given)
  given_plain all [] h k = h
  given_plain all (a ∷ rest) h k = given_plain (one_attribute all a a.value) rest (one_attribute_plain all a a.value h k.0) k.1

  given_named : (all : List Text) (given : List (Attribute K)) → AllNames all → AllGiven given → AllNames (given_listeners all given)
  given_named all [] h k = h
  given_named all (a ∷ rest) h k = given_named (one_listener all a a.value) rest (one_listener_named all a a.value h k.0) k.1

  pub slot_given : (slots : List (List (Attribute K))) (k : ℕ) → AllSlotsGiven slots → AllGiven (attributes_in slots k)
  slot_given [] k h = tt
  slot_given (given ∷ slots) zero h = h.0
  slot_given (given ∷ slots) (suc k) h = slot_given slots k h.1

  element_plain : (given : List (List (Attribute K))) (all : List DocAttribute) (attributes : List TemplateAttribute) → AllSlotsGiven given → AllPlain all → AllByRecursion NamedFixed attributes
      → AllPlain (element_attributes given all attributes)
  element_plain given all [] g h k = h
  element_plain given all (fixed name namespace value ∷ rest) g h k =
      element_plain given (with_attribute all (record { name = name; namespace = namespace; value = value })) rest g
      (with_attribute_plain all (record { name = name; namespace = namespace; value = value }) h (space_bytes namespace k.0.0, name_bytes name k.0.1)) k.1
  element_plain given all (from_slot n ∷ rest) g h k =
      element_plain given (given_attributes all (attributes_in given n)) rest g (given_plain all (attributes_in given n) h (slot_given given n g)) k.1

  element_named : (given : List (List (Attribute K))) (all : List Text) (attributes : List TemplateAttribute) → AllSlotsGiven given → AllNames all → AllNames (element_listeners given all attributes)
  element_named given all [] g h = h
  element_named given all (fixed name namespace value ∷ rest) g h = element_named given all rest g h
  element_named given all (from_slot n ∷ rest) g h =
      element_named given (given_listeners all (attributes_in given n)) rest g (given_named all (attributes_in given n) h (slot_given given n g))

  nodes_plain : (numbers : List (Place × Kind × ℕ)) (whole : Template) (above : Place) (given : List (List (Attribute K))) (slot : ℕ → Place → Forest) (up : List ℕ) (i : ℕ) (nodes : TemplateNodes)
      → AllSmall numbers → AllSlotsGiven given → ((k : ℕ) (place : Place) → IsPlainForest (slot k place)) → NamedNodes nodes
      → IsPlainForest (nodes_view numbers whole above given slot up i nodes)
  nodes_plain numbers whole above given slot up i no_nodes small g each h = tt
  nodes_plain numbers whole above given slot up i (element_node tag namespace attributes children rest) small g each h = (
    number_small numbers (place_in whole above up i) an_element small,
    (space_bytes namespace h.0, name_bytes tag h.1, element_plain given [] attributes g tt h.2, element_named given [] attributes g tt),
    tt,
    nodes_plain numbers whole above given slot (up ++ i ∷ []) 0 children small g each h.3,
    nodes_plain numbers whole above given slot up (i + 1) rest small g each h.4,
  )
  nodes_plain numbers whole above given slot up i (text_node text rest) small g each h =
      (number_small numbers (place_in whole above up i) a_static_text small, tt, refl, tt, nodes_plain numbers whole above given slot up (i + 1) rest small g each h)
  nodes_plain numbers whole above given slot up i (slot_node k rest) small g each h =
      joined_plain (slot k (place_in whole above up i)) (nodes_view numbers whole above given slot up (i + 1) rest) (each k (place_in whole above up i))
      (nodes_plain numbers whole above given slot up (i + 1) rest small g each h)

  module _ (side : Side K) (inner : ℕ → Forest) (small : AllSmall side.numbers) (inside : (t : ℕ) → IsPlainForest (inner t)) where
    child_plain : (o : Option ℕ) → IsPlainForest (child_view inner o)
    child_plain None = tt
    child_plain (Some t) = inside t

    mutual
      -- what a tree shows
      pub tree_plain : (above : Place) (tree : Tree K) → NamedTree tree → IsPlainForest (tree_view side inner above tree)
      tree_plain above (block template given slots) h =
          nodes_plain side.numbers template above given (λ k place. slots_view side inner slots k place) [] 0 template.roots small h.1 (λ k place. slots_plain slots k place h.2) h.0

      slots_plain : (slots : Slots K) (k : ℕ) (place : Place) → NamedSlots slots → IsPlainForest (slots_view side inner slots k place)
      slots_plain no_slots k place h = tt
      slots_plain (more_slots v rest) zero place h = slot_plain v place h.0
      slots_plain (more_slots v rest) (suc k) place h = slots_plain rest k place h.1

      -- what stands in a slot
      pub slot_plain : (v : Slot K) (place : Place) → NamedSlot v → IsPlainForest (slot_view side inner v place)
      slot_plain (text_slot text) place h = text_plain (number_at side.numbers place a_text) text (number_small side.numbers place a_text small)
      slot_plain placeholder_slot place h = placeholder_plain (number_at side.numbers place a_placeholder) (number_small side.numbers place a_placeholder small)
      slot_plain (component_slot c) place h = child_plain (child_at side.children place)
      slot_plain (fragment_slot no_trees) place h = placeholder_plain (number_at side.numbers place an_empty_fragment) (number_small side.numbers place an_empty_fragment small)
      slot_plain (fragment_slot (more_trees t ts)) place h = items_plain 0 place (more_trees t ts) h

      -- the items of a fragment
      pub items_plain : (i : ℕ) (place : Place) (ts : Trees K) → NamedTrees ts → IsPlainForest (items_view side inner i place ts)
      items_plain i place no_trees h = tt
      items_plain i place (more_trees t ts) h =
          joined_plain (tree_view side inner (place ++ item i ∷ []) t) (items_view side inner (i + 1) place ts)
          (tree_plain (place ++ item i ∷ []) t h.0) (items_plain (i + 1) place ts h.1)

  -- scopes whose components and outputs have names, and whose numbers are small

  abbrev pub NamedOutput : Option (Tree K) → Type 0
  NamedOutput None = Unit {0}
  NamedOutput (Some tree) = NamedTree tree

  pub record NamedSide (a : Side K) : Type 0 where
    pub small : AllSmall a.numbers
    pub output : NamedOutput a.output

  pub record NamedScope (x : Scope K) : Type 0 where
    pub component : NamedComponent x.component
    pub sides : (a : SideName) → NamedSide (side_of x a)

  abbrev pub NamedScopes : State K → Type 0
  NamedScopes w = (s : ℕ) (x : Scope K) → at w.scopes s ≡ Some x → NamedScope x

  side_shows_plain : (inner : ℕ → Forest) (a : Side K) (o : Option (Tree K)) → AllSmall a.numbers → ((t : ℕ) → IsPlainForest (inner t)) → NamedOutput o
      → IsPlainForest (elim o as (λ z. Forest) [ None ↦ Empty | Some tree ↦ tree_view a inner [] tree ])
  side_shows_plain inner a None small inside h = tt
  side_shows_plain inner a (Some tree) small inside h = tree_plain a inner small inside [] tree h

  shows_plain : (inner : ℕ → Forest) (x : Scope K) (o : Option SideName) → NamedScope x → ((t : ℕ) → IsPlainForest (inner t))
      → IsPlainForest (elim o as (λ z. Forest) [ None ↦ Empty | Some name ↦ side_view inner (side_of x name) ])
  shows_plain inner x None h inside = tt
  shows_plain inner x (Some name) h inside = side_shows_plain inner (side_of x name) (side_of x name).output (h.sides name).small inside (h.sides name).output

  scope_plain : (w : State K) (inner : ℕ → Forest) (s : ℕ) (o : Option (Scope K)) → at w.scopes s ≡ o → NamedScopes w → ((t : ℕ) → IsPlainForest (inner t)) → IsPlainForest (scope_view inner o)
  scope_plain w inner s None e h inside = tt
  scope_plain w inner s (Some x) e h inside = shows_plain inner x x.shows (h s x e) inside

  within_plain : (w : State K) (n s : ℕ) → NamedScopes w → IsPlainForest (view_within w n s)
  within_plain w zero s h = tt
  within_plain w (suc n) s h = scope_plain w (λ t. view_within w n t) s (at w.scopes s) refl h (λ t. within_plain w n t h)

  -- what a scope shows
  pub shown_plain : (w : State K) (s : ℕ) → NamedScopes w → IsPlainForest (nodes_of w s)
  shown_plain w s h = within_plain w (length w.scopes) s h
