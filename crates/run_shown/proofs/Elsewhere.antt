-- Where a number stands at no place of a tree, nor a child below which it is found, nothing is found in the tree.
use Rattle.std.proofs.Common.{ℕ, zero, suc, ◌+◌, false, List, [], ◌∷◌, ◌++◌, ◌≡◌, refl, sym, ap, ◌∙◌, nat_eq}
use Rattle.std.specs.Prelude.{Option, Some, None, if◌then◌else◌}
use Rattle.std.proofs.lemmas.List.{append_assoc}
use Rattle.rt_model.specs.Lists.{first_of}
use Rattle.rt_model.specs.Tree.{Types, TemplateNodes, no_nodes, element_node, text_node, slot_node, Template, Attribute, Tree, block, Slots, no_slots, more_slots, Slot, text_slot, placeholder_slot, component_slot, fragment_slot, Trees, no_trees, more_trees, Step, inside, item, Place, Kind, an_element, a_static_text, a_text, a_placeholder, an_empty_fragment, place_in}
use Rattle.rt_model.specs.State.{Side}
use Rattle.rt_model.specs.Run.{child_at}
use Rattle.rt_model.specs.Heard.{number_at, Climb, below_element, slots_on, leaf_climb, find_nodes, find_child, find_tree, find_slots, find_slot, find_items}
use Rattle.rt_model.proofs.Maps.{pick_false}
use Rattle.run_places.specs.Places.{at_path}
use Rattle.run_shown.proofs.OneByOne.{nil-right}

module _ {K : Types} (side : Side K) (number : ℕ) (finds : ℕ → Option (Climb K)) where
  -- at a place stands neither the number nor a child below which it is found
  pub record Lacks (q : Place) : Type 0 where
    pub leaf : (k : Kind) → nat_eq (number_at side.numbers q k) number ≡ false
    pub child : find_child finds (child_at side.children q) ≡ None

  pub lacks_at : (p q : Place) → p ≡ q → Lacks q → Lacks p
  lacks_at p q same h = record {
    leaf = λ k. ap (λ (z : Place). nat_eq (number_at side.numbers z k) number) same ∙ h.leaf k;
    child = ap (λ (z : Place). find_child finds (child_at side.children z)) same ∙ h.child;
  }

  -- at a place itself and at all below it
  abbrev pub LacksFrom : Place → Type 0
  LacksFrom place = (r : Place) → Lacks (place ++ r)

  pub lacks_here : (place : Place) → LacksFrom place → Lacks place
  lacks_here place h = lacks_at place (place ++ []) (sym (nil-right place)) (h [])

  pub lacks_below : (place : Place) (x : Step) → LacksFrom place → LacksFrom (place ++ x ∷ [])
  lacks_below place x h r = lacks_at ((place ++ x ∷ []) ++ r) (place ++ x ∷ r) (append_assoc place (x ∷ []) r) (h (x ∷ r))

  pub no_leaf : (n : ℕ) → nat_eq n number ≡ false → leaf_climb {K = K} number n ≡ None
  no_leaf n h = pick_false (Some ([] ∷ [])) None h

  -- in nodes of a template, with what stands in their slots

  module _ (whole : Template) (above : Place) (given : List (List (Attribute K))) (slot : ℕ → Place → Option (Climb K)) where
    none_before : (a b : Option (Climb K)) → a ≡ None → b ≡ None → first_of a b ≡ None
    none_before a b f g = ap (λ (o : Option (Climb K)). first_of o b) f ∙ g

    element_none : (attributes : List (List (Attribute K))) (q : Place) (found : Option (Climb K)) → Lacks q → found ≡ None
        → (if nat_eq (number_at side.numbers q an_element) number then Some (attributes ∷ []) else below_element attributes found) ≡ None
    element_none attributes q found lacks none =
        pick_false (Some (attributes ∷ [])) (below_element attributes found) (lacks.leaf an_element)
        ∙ ap (λ (o : Option (Climb K)). below_element attributes o) none

    pub nodes_none : (up : List ℕ) (i : ℕ) (ns : TemplateNodes)
        → ((j : ℕ) (path : List ℕ) → Lacks (at_path whole above (up ++ j ∷ path)))
        → ((k j : ℕ) (path : List ℕ) → slot k (at_path whole above (up ++ j ∷ path)) ≡ None)
        → find_nodes side.numbers number whole above given slot up i ns ≡ None
    nodes_none up i no_nodes lacks none = refl
    nodes_none up i (element_node tag namespace attributes children rest) lacks none =
        let found : Option (Climb K) = find_nodes side.numbers number whole above given slot (up ++ i ∷ []) 0 children in
        let absent : found ≡ None =
        nodes_none (up ++ i ∷ []) 0 children
        (
        λ j path.
        lacks_at (at_path whole above ((up ++ i ∷ []) ++ j ∷ path)) (at_path whole above (up ++ i ∷ j ∷ path)) (ap (λ (ps : List ℕ). at_path whole above ps) (append_assoc up (i ∷ []) (j ∷ path)))
        (lacks i (j ∷ path))
        )
        (λ k j path. ap (λ (ps : List ℕ). slot k (at_path whole above ps)) (append_assoc up (i ∷ []) (j ∷ path)) ∙ none k i (j ∷ path)) in
        none_before
        (if nat_eq (number_at side.numbers (place_in whole above up i) an_element) number then Some (slots_on given attributes ∷ []) else below_element (slots_on given attributes) found)
        (find_nodes side.numbers number whole above given slot up (i + 1) rest)
        (element_none (slots_on given attributes) (place_in whole above up i) found (lacks i []) absent)
        (nodes_none up (i + 1) rest lacks none)
    nodes_none up i (text_node text rest) lacks none =
        none_before
        (leaf_climb number (number_at side.numbers (place_in whole above up i) a_static_text))
        (find_nodes side.numbers number whole above given slot up (i + 1) rest)
        (no_leaf (number_at side.numbers (place_in whole above up i) a_static_text) ((lacks i []).leaf a_static_text))
        (nodes_none up (i + 1) rest lacks none)
    nodes_none up i (slot_node k rest) lacks none =
        none_before
        (slot k (place_in whole above up i))
        (find_nodes side.numbers number whole above given slot up (i + 1) rest)
        (none k i [])
        (nodes_none up (i + 1) rest lacks none)

  -- in a tree

  mutual
    pub tree_none : (above : Place) (tree : Tree K) → ((x : Step) → LacksFrom (above ++ x ∷ [])) → find_tree side number finds above tree ≡ None
    tree_none above (block template given slots) lacks =
        nodes_none template above given (λ k place. find_slots side number finds slots k place) [] 0 template.roots
        (λ j path. lacks_here (at_path template above (j ∷ path)) (lacks (inside template (j ∷ path))))
        (λ k j path. slots_none slots k (at_path template above (j ∷ path)) (lacks (inside template (j ∷ path))))

    pub slots_none : (slots : Slots K) (k : ℕ) (place : Place) → LacksFrom place → find_slots side number finds slots k place ≡ None
    slots_none no_slots k place lacks = refl
    slots_none (more_slots v rest) zero place lacks = slot_none v place lacks
    slots_none (more_slots v rest) (suc k) place lacks = slots_none rest k place lacks

    slot_none : (v : Slot K) (place : Place) → LacksFrom place → find_slot side number finds v place ≡ None
    slot_none (text_slot text) place lacks = no_leaf (number_at side.numbers place a_text) ((lacks_here place lacks).leaf a_text)
    slot_none placeholder_slot place lacks = no_leaf (number_at side.numbers place a_placeholder) ((lacks_here place lacks).leaf a_placeholder)
    slot_none (component_slot c) place lacks = (lacks_here place lacks).child
    slot_none (fragment_slot no_trees) place lacks = no_leaf (number_at side.numbers place an_empty_fragment) ((lacks_here place lacks).leaf an_empty_fragment)
    slot_none (fragment_slot (more_trees t ts)) place lacks = items_none 0 place (more_trees t ts) lacks

    items_none : (i : ℕ) (place : Place) (trees : Trees K) → LacksFrom place → find_items side number finds i place trees ≡ None
    items_none i place no_trees lacks = refl
    items_none i place (more_trees t ts) lacks =
        ap (λ (o : Option (Climb K)). first_of o (find_items side number finds (i + 1) place ts))
        (tree_none (place ++ item i ∷ []) t (λ x. lacks_below (place ++ item i ∷ []) x (lacks_below place (item i) lacks)))
        ∙ items_none (i + 1) place ts lacks
