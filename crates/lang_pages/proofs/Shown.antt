-- What shows has attributes that ascend, and names that can be spelt where the trees that it is made of have names.
use Rattle.std.proofs.Common.{ℕ, zero, suc, ◌+◌, ◌-◌, Bool, true, false, ◌&&◌, not, List, [], ◌∷◌, ◌++◌, ◌≡◌, refl, length}
use Rattle.std.specs.Prelude.{Option, Some, None, ◌==◌, if◌then◌else◌}
use Rattle.std.specs.List.{AllByRecursion}
use Rattle.rt_html.specs.Reading.{ascend, attributes_ascend, are_fit}
use Rattle.rt_html.specs.Spelling.{is_namespace, attributes_namable, is_namable, are_namable}
use Rattle.rt_values.specs.Naming.{is_name}
use Rattle.rt_model.specs.Lists.{Text, at}
use Rattle.rt_model.specs.Tree.{Types, TemplateAttribute, fixed, from_slot, TemplateNodes, no_nodes, element_node, text_node, slot_node, Template, AttributeValue, text_value, no_value, listener, Attribute, Tree, block, Slots, no_slots, more_slots, Slot, text_slot, placeholder_slot, component_slot, fragment_slot, Trees, no_trees, more_trees, item, Place, Kind, place_in, attributes_in}
use Rattle.rt_model.specs.State.{SideName, Side, Scope, State, side_of}
use Rattle.rt_model.specs.Run.{child_at}
use Rattle.rt_model.specs.Document.{DocAttribute, Content, DocElement, DocText, DocPlaceholder, Forest, Empty, Node, join_rows, same_key, earlier_key, with_attribute}
use Rattle.rt_model.specs.View.{child_view, one_attribute, given_attributes, element_attributes, element_listeners, nodes_view, tree_view, slots_view, slot_view, items_view, side_view, scope_view, view_within, nodes_of}
use Rattle.rt_model.proofs.Conjunctions.{and-left, and-right}
use Rattle.lang_lines.specs.Named.{IsName, IsNamespace, NamedFixed, NamedNodes, NamedGiven, AllGiven, AllSlotsGiven, NamedTree, NamedSlots, NamedSlot, NamedTrees}
use Rattle.lang_lines.proofs.NamedViews.{slot_given, NamedOutput, NamedScope, NamedScopes}
use Rattle.lang_pages.specs.Pages.{has_levels}
use Rattle.lang_pages.proofs.Ascending.{both, set_ascends}

-- the name and the namespace of an attribute can be spelt
abbrev key_namable : DocAttribute → Bool
key_namable a = is_name a.name && is_namespace a.namespace

space_named : (namespace : Option Text) → IsNamespace namespace → is_namespace namespace ≡ true
space_named None h = refl
space_named (Some n) h = h

key_named : (name : Text) (namespace : Option Text) → IsNamespace namespace → IsName name → (is_name name && is_namespace namespace) ≡ true
key_named name namespace h k = both (is_name name) (is_namespace namespace) k (space_named namespace h)

set_namable : (all : List DocAttribute) (a : DocAttribute) → attributes_namable all ≡ true → key_namable a ≡ true
    → attributes_namable (with_attribute all a) ≡ true
set_namable [] a h k = both (key_namable a) true k refl
set_namable (b ∷ rest) a h k =
    by_key (same_key b a.name a.namespace) (earlier_key a b)
    (set_namable rest a (and-right (key_namable b) (attributes_namable rest) h) k)
  where
    by_key : (x y : Bool) → attributes_namable (with_attribute rest a) ≡ true
        → attributes_namable (if x then a ∷ rest else (if y then a ∷ b ∷ rest else b ∷ with_attribute rest a)) ≡ true
    by_key true y go = both (key_namable a) (attributes_namable rest) k (and-right (key_namable b) (attributes_namable rest) h)
    by_key false true go = both (key_namable a) (attributes_namable (b ∷ rest)) k h
    by_key false false go =
        both (key_namable b) (attributes_namable (with_attribute rest a)) (and-left (key_namable b) (attributes_namable rest) h) go

-- what is shown by trees whose names are names, where that is known
module _ (Known : Type 0) where
  -- the attributes of an element: they ascend, and where it is known their names can be spelt
  pub record Kept (all : List DocAttribute) : Type 0 where
    pub ascending : ascend all ≡ true
    pub named : Known → attributes_namable all ≡ true

  -- a node, likewise
  pub record FitNode (content : Content) : Type 0 where
    pub ascending : attributes_ascend content ≡ true
    pub named : Known → is_namable content ≡ true

  -- nodes, with all that stands below them
  abbrev pub Fit : Forest → Type 0
  Fit Empty = Unit {0}
  Fit (Node id content children rest) = FitNode content × Fit children × Fit rest

  none_kept : Kept []
  none_kept = record { ascending = refl; named = λ n. refl }

  set_kept : (all : List DocAttribute) (a : DocAttribute) → Kept all → (Known → key_namable a ≡ true) → Kept (with_attribute all a)
  set_kept all a h k =
      record { ascending = set_ascends all a h.ascending; named = λ n. set_namable all a (h.named n) (k n) }

  text_fit : (text : Text) → FitNode (DocText text)
  text_fit text = record { ascending = refl; named = λ n. refl }

  placeholder_fit : FitNode DocPlaceholder
  placeholder_fit = record { ascending = refl; named = λ n. refl }

  -- one row and then another
  joined_fit : (f g : Forest) → Fit f → Fit g → Fit (join_rows f g)
  joined_fit Empty g h k = k
  joined_fit (Node id content children rest) g h k = (h.0, h.1, joined_fit rest g h.2 k)

  module _ {K : Types} where
    one_kept : (all : List DocAttribute) (a : Attribute K) (v : AttributeValue K) → Kept all → (Known → NamedGiven a)
        → Kept (one_attribute all a v)
    one_kept all a (text_value text) h k =
        set_kept all (record { name = a.name; namespace = a.namespace; value = text }) h (λ n. key_named a.name a.namespace (k n).0 (k n).1)
    one_kept all a no_value h k = h
    one_kept all a (listener origin handler) h k = h

    given_kept : (all : List DocAttribute) (given : List (Attribute K)) → Kept all → (Known → AllGiven given)
        → Kept (given_attributes all given)
    given_kept all [] h k = h
    given_kept all (a ∷ rest) h k =
        given_kept (one_attribute all a a.value) rest (one_kept all a a.value h (λ n. (k n).0)) (λ n. (k n).1)

    element_kept : (given : List (List (Attribute K))) (all : List DocAttribute) (attributes : List TemplateAttribute)
        → (Known → AllSlotsGiven given) → Kept all → (Known → AllByRecursion NamedFixed attributes)
        → Kept (element_attributes given all attributes)
    element_kept given all [] g h k = h
    element_kept given all (fixed name namespace value ∷ rest) g h k =
        element_kept given (with_attribute all (record { name = name; namespace = namespace; value = value })) rest g
        (set_kept all (record { name = name; namespace = namespace; value = value }) h (λ n. key_named name namespace (k n).0.0 (k n).0.1))
        (λ n. (k n).1)
    element_kept given all (from_slot i ∷ rest) g h k =
        element_kept given (given_attributes all (attributes_in given i)) rest g
        (given_kept all (attributes_in given i) h (λ n. slot_given given i (g n))) (λ n. (k n).1)

    -- an element
    element_fit : (given : List (List (Attribute K))) (tag : Text) (namespace : Option Text) (attributes : List TemplateAttribute)
        (listeners : List Text) → (Known → AllSlotsGiven given) → (Known → IsNamespace namespace) → (Known → IsName tag)
        → (Known → AllByRecursion NamedFixed attributes)
        → FitNode (DocElement tag namespace (element_attributes given [] attributes) listeners)
    element_fit given tag namespace attributes listeners g space name own =
        let all : List DocAttribute = element_attributes given [] attributes in
        let k : Kept all = element_kept given [] attributes g none_kept own in
        record {
          ascending = k.ascending;
          named =
              λ n.
              both (is_name tag) (is_namespace namespace && attributes_namable all) (name n)
              (both (is_namespace namespace) (attributes_namable all) (space_named namespace (space n)) (k.named n));
        }

    -- the nodes of a template
    nodes_fit : (numbers : List (Place × Kind × ℕ)) (whole : Template) (above : Place) (given : List (List (Attribute K)))
        (slot : ℕ → Place → Forest) (up : List ℕ) (i : ℕ) (nodes : TemplateNodes)
        → (Known → AllSlotsGiven given) → ((k : ℕ) (place : Place) → Fit (slot k place)) → (Known → NamedNodes nodes)
        → Fit (nodes_view numbers whole above given slot up i nodes)
    nodes_fit numbers whole above given slot up i no_nodes g each h = tt
    nodes_fit numbers whole above given slot up i (element_node tag namespace attributes children rest) g each h = (
      element_fit given tag namespace attributes (element_listeners given [] attributes) g (λ n. (h n).0) (λ n. (h n).1) (λ n. (h n).2),
      nodes_fit numbers whole above given slot (up ++ i ∷ []) 0 children g each (λ n. (h n).3),
      nodes_fit numbers whole above given slot up (i + 1) rest g each (λ n. (h n).4),
    )
    nodes_fit numbers whole above given slot up i (text_node text rest) g each h =
        (text_fit text, tt, nodes_fit numbers whole above given slot up (i + 1) rest g each h)
    nodes_fit numbers whole above given slot up i (slot_node k rest) g each h =
        joined_fit (slot k (place_in whole above up i)) (nodes_view numbers whole above given slot up (i + 1) rest)
        (each k (place_in whole above up i)) (nodes_fit numbers whole above given slot up (i + 1) rest g each h)

    module _ (side : Side K) (inner : ℕ → Forest) (inside : (t : ℕ) → Fit (inner t)) where
      child_fit : (o : Option ℕ) → Fit (child_view inner o)
      child_fit None = tt
      child_fit (Some t) = inside t

      mutual
        -- what a tree shows
        tree_fit : (above : Place) (tree : Tree K) → (Known → NamedTree tree) → Fit (tree_view side inner above tree)
        tree_fit above (block template given slots) h =
            nodes_fit side.numbers template above given (λ k place. slots_view side inner slots k place) [] 0 template.roots
            (λ n. (h n).1) (λ k place. slots_fit slots k place (λ n. (h n).2)) (λ n. (h n).0)

        slots_fit : (slots : Slots K) (k : ℕ) (place : Place) → (Known → NamedSlots slots) → Fit (slots_view side inner slots k place)
        slots_fit no_slots k place h = tt
        slots_fit (more_slots v rest) zero place h = slot_fit v place (λ n. (h n).0)
        slots_fit (more_slots v rest) (suc k) place h = slots_fit rest k place (λ n. (h n).1)

        -- what stands in a slot
        slot_fit : (v : Slot K) (place : Place) → (Known → NamedSlot v) → Fit (slot_view side inner v place)
        slot_fit (text_slot text) place h = (text_fit text, tt, tt)
        slot_fit placeholder_slot place h = (placeholder_fit, tt, tt)
        slot_fit (component_slot c) place h = child_fit (child_at side.children place)
        slot_fit (fragment_slot no_trees) place h = (placeholder_fit, tt, tt)
        slot_fit (fragment_slot (more_trees t ts)) place h = items_fit 0 place (more_trees t ts) h

        -- the items of a fragment
        items_fit : (i : ℕ) (place : Place) (ts : Trees K) → (Known → NamedTrees ts) → Fit (items_view side inner i place ts)
        items_fit i place no_trees h = tt
        items_fit i place (more_trees t ts) h =
            joined_fit (tree_view side inner (place ++ item i ∷ []) t) (items_view side inner (i + 1) place ts)
            (tree_fit (place ++ item i ∷ []) t (λ n. (h n).0)) (items_fit (i + 1) place ts (λ n. (h n).1))

    side_fit : (inner : ℕ → Forest) (a : Side K) (o : Option (Tree K)) → ((t : ℕ) → Fit (inner t)) → (Known → NamedOutput o)
        → Fit (elim o as (λ z. Forest) [ None ↦ Empty | Some tree ↦ tree_view a inner [] tree ])
    side_fit inner a None inside h = tt
    side_fit inner a (Some tree) inside h = tree_fit a inner inside [] tree h

    shows_fit : (inner : ℕ → Forest) (x : Scope K) (o : Option SideName) → (Known → NamedScope x) → ((t : ℕ) → Fit (inner t))
        → Fit (elim o as (λ z. Forest) [ None ↦ Empty | Some name ↦ side_view inner (side_of x name) ])
    shows_fit inner x None h inside = tt
    shows_fit inner x (Some name) h inside =
        side_fit inner (side_of x name) (side_of x name).output inside (λ n. ((h n).sides name).output)

    scope_fit : (w : State K) (inner : ℕ → Forest) (s : ℕ) (o : Option (Scope K)) → at w.scopes s ≡ o → (Known → NamedScopes w)
        → ((t : ℕ) → Fit (inner t)) → Fit (scope_view inner o)
    scope_fit w inner s None e h inside = tt
    scope_fit w inner s (Some x) e h inside = shows_fit inner x x.shows (λ n. h n s x e) inside

    within_fit : (w : State K) (depth s : ℕ) → (Known → NamedScopes w) → Fit (view_within w depth s)
    within_fit w zero s h = tt
    within_fit w (suc depth) s h =
        scope_fit w (λ t. view_within w depth t) s (at w.scopes s) refl h (λ t. within_fit w depth t h)

    -- what a scope shows
    pub shown_fit : (w : State K) (s : ℕ) → (Known → NamedScopes w) → Fit (nodes_of w s)
    shown_fit w s h = within_fit w (length w.scopes) s h

  -- so their names can be spelt
  pub fit_namable : (f : Forest) → Known → Fit f → are_namable f ≡ true
  fit_namable Empty n h = refl
  fit_namable (Node id content children rest) n h =
      both (is_namable content && are_namable children) (are_namable rest)
      (both (is_namable content) (are_namable children) (h.0.named n) (fit_namable children n h.1)) (fit_namable rest n h.2)

  -- and where they can, the nodes are fit to be read, up to so many levels
  pub fit_within : (levels : ℕ) (f : Forest) → Fit f → are_namable f ≡ true → has_levels levels f ≡ true → are_fit levels f ≡ true
  fit_within levels Empty h names deep = refl
  fit_within levels (Node id content children rest) h names deep =
      let own : (is_namable content && are_namable children) ≡ true =
      and-left (is_namable content && are_namable children) (are_namable rest) names in
      let below : (not (levels == 0) && has_levels (levels - 1) children) ≡ true =
      and-left (not (levels == 0) && has_levels (levels - 1) children) (has_levels levels rest) deep in
      let inner : are_fit (levels - 1) children ≡ true =
      fit_within (levels - 1) children h.1 (and-right (is_namable content) (are_namable children) own)
      (and-right (not (levels == 0)) (has_levels (levels - 1) children) below) in
      both (not (levels == 0) && (is_namable content && (attributes_ascend content && are_fit (levels - 1) children))) (are_fit levels rest)
      (both (not (levels == 0)) (is_namable content && (attributes_ascend content && are_fit (levels - 1) children))
      (and-left (not (levels == 0)) (has_levels (levels - 1) children) below)
      (both (is_namable content) (attributes_ascend content && are_fit (levels - 1) children)
      (and-left (is_namable content) (are_namable children) own)
      (both (attributes_ascend content) (are_fit (levels - 1) children) h.0.ascending inner)))
      (fit_within levels rest h.2 (and-right (is_namable content && are_namable children) (are_namable rest) names)
      (and-right (not (levels == 0) && has_levels (levels - 1) children) (has_levels levels rest) deep))
