-- A number that doesn't show isn't found among what shows, so nobody hears an event there.
use Rattle.std.proofs.Common.{ℕ, zero, suc, ◌+◌, Bool, true, false, ◌||◌, List, [], ◌∷◌, ◌++◌, length, ◌≡◌, refl, ap, ◌∙◌, nat_eq}
use Rattle.std.specs.Prelude.{Option, Some, None, if◌then◌else◌}
use Rattle.rt_lemmas.proofs.Bools.{neither}
use Rattle.rt_model.specs.Lists.{Text, at, first_of}
use Rattle.rt_model.specs.Tree.{Types, TemplateNodes, no_nodes, element_node, text_node, slot_node, Template, Attribute, Tree, block, Slots, no_slots, more_slots, Slot, text_slot, placeholder_slot, component_slot, fragment_slot, Trees, no_trees, more_trees, item, Place, Kind, an_element, a_static_text, a_text, a_placeholder, an_empty_fragment, place_in}
use Rattle.rt_model.specs.State.{SideName, Side, Scope, State, side_of}
use Rattle.rt_model.specs.Run.{child_at}
use Rattle.rt_model.specs.Heard.{number_at, Climb, below_element, slots_on, leaf_climb, find_nodes, find_child, find_tree, find_slots, find_slot, find_items, find_side, find_output, find_within, heard_on, heard}
use Rattle.rt_model.specs.Document.{Forest, Empty, Node, join_rows, is_in}
use Rattle.rt_model.specs.View.{child_view, nodes_view, tree_view, slots_view, slot_view, items_view, side_view, scope_view, view_within, view}
use Rattle.rt_model.proofs.Maps.{pick_false}

joined_in : (i : ℕ) (f g : Forest) → is_in i (join_rows f g) ≡ false → (is_in i f ≡ false) × (is_in i g ≡ false)
joined_in i Empty g h = (refl, h)
joined_in i (Node id content children rest) g h =
    let own = neither (nat_eq id i) (is_in i children || is_in i (join_rows rest g)) h in
    let below = neither (is_in i children) (is_in i (join_rows rest g)) own.1 in
    let later = joined_in i rest g below.1 in (
      ap (λ (b : Bool). b || (is_in i children || is_in i rest)) own.0
          ∙ ap (λ (b : Bool). b || is_in i rest) below.0
          ∙ later.0,
      later.1,
    )

module _ {K : Types} where
  none_later : (a b : Option (Climb K)) → a ≡ None → b ≡ None → first_of a b ≡ None
  none_later a b f g = ap (λ (o : Option (Climb K)). first_of o b) f ∙ g

  no_leaf : (number n : ℕ) → nat_eq n number ≡ false → leaf_climb {K = K} number n ≡ None
  no_leaf number n h = pick_false (Some ([] ∷ [])) None h

  module _ (number : ℕ) where
    abbrev Hidden : (ℕ → Forest) → (ℕ → Option (Climb K)) → Type 0
    Hidden shows finds = (t : ℕ) → is_in number (shows t) ≡ false → finds t ≡ None

    nodes_unfound : (numbers : List (Place × Kind × ℕ)) (whole : Template) (above : Place) (given : List (List (Attribute K)))
        (shows : ℕ → Place → Forest) (finds : ℕ → Place → Option (Climb K))
        → ((k : ℕ) (p : Place) → is_in number (shows k p) ≡ false → finds k p ≡ None)
        → (up : List ℕ) (i : ℕ) (nodes : TemplateNodes)
        → is_in number (nodes_view numbers whole above given shows up i nodes) ≡ false
        → find_nodes numbers number whole above given finds up i nodes ≡ None
    nodes_unfound numbers whole above given shows finds each up i no_nodes h = refl
    nodes_unfound numbers whole above given shows finds each up i (element_node tag namespace attributes children rest) h =
        let inner : Forest = nodes_view numbers whole above given shows (up ++ i ∷ []) 0 children in
        let later : Forest = nodes_view numbers whole above given shows up (i + 1) rest in
        let own = neither (nat_eq (number_at numbers (place_in whole above up i) an_element) number) (is_in number inner || is_in number later) h in
        let below = neither (is_in number inner) (is_in number later) own.1 in
        let found : Option (Climb K) = find_nodes numbers number whole above given finds (up ++ i ∷ []) 0 children in
        let none : found ≡ None = nodes_unfound numbers whole above given shows finds each (up ++ i ∷ []) 0 children below.0 in
        none_later
        (if nat_eq (number_at numbers (place_in whole above up i) an_element) number then Some (slots_on given attributes ∷ []) else below_element (slots_on given attributes) found)
        (find_nodes numbers number whole above given finds up (i + 1) rest)
        (
        pick_false (Some (slots_on given attributes ∷ [])) (below_element (slots_on given attributes) found) own.0
        ∙ ap (λ (o : Option (Climb K)). below_element (slots_on given attributes) o) none
        )
        (nodes_unfound numbers whole above given shows finds each up (i + 1) rest below.1)
    nodes_unfound numbers whole above given shows finds each up i (text_node text rest) h =
        let later : Forest = nodes_view numbers whole above given shows up (i + 1) rest in
        let own = neither (nat_eq (number_at numbers (place_in whole above up i) a_static_text) number) (is_in number later) h in
        none_later
        (leaf_climb number (number_at numbers (place_in whole above up i) a_static_text))
        (find_nodes numbers number whole above given finds up (i + 1) rest)
        (no_leaf number (number_at numbers (place_in whole above up i) a_static_text) own.0)
        (nodes_unfound numbers whole above given shows finds each up (i + 1) rest own.1)
    nodes_unfound numbers whole above given shows finds each up i (slot_node k rest) h =
        let both = joined_in number (shows k (place_in whole above up i)) (nodes_view numbers whole above given shows up (i + 1) rest) h in
        none_later
        (finds k (place_in whole above up i))
        (find_nodes numbers number whole above given finds up (i + 1) rest)
        (each k (place_in whole above up i) both.0)
        (nodes_unfound numbers whole above given shows finds each up (i + 1) rest both.1)

    module _ (side : Side K) (shows : ℕ → Forest) (finds : ℕ → Option (Climb K)) (hides : Hidden shows finds) where
      child_unfound : (o : Option ℕ) → is_in number (child_view shows o) ≡ false → find_child finds o ≡ None
      child_unfound None h = refl
      child_unfound (Some t) h = hides t h

      single : (n : ℕ) → nat_eq n number || false ≡ false → leaf_climb {K = K} number n ≡ None
      single n h = no_leaf number n (neither (nat_eq n number) false h).0

      mutual
        tree_unfound : (above : Place) (tree : Tree K) → is_in number (tree_view side shows above tree) ≡ false → find_tree side number finds above tree ≡ None
        tree_unfound above (block template given slots) h =
            nodes_unfound side.numbers template above given (λ k place. slots_view side shows slots k place) (λ k place. find_slots side number finds slots k place)
            (λ k place g. slots_unfound slots k place g) [] 0 template.roots h

        slots_unfound : (slots : Slots K) (k : ℕ) (place : Place) → is_in number (slots_view side shows slots k place) ≡ false → find_slots side number finds slots k place ≡ None
        slots_unfound no_slots k place h = refl
        slots_unfound (more_slots v rest) zero place h = slot_unfound v place h
        slots_unfound (more_slots v rest) (suc k) place h = slots_unfound rest k place h

        slot_unfound : (v : Slot K) (place : Place) → is_in number (slot_view side shows v place) ≡ false → find_slot side number finds v place ≡ None
        slot_unfound (text_slot text) place h = single (number_at side.numbers place a_text) h
        slot_unfound placeholder_slot place h = single (number_at side.numbers place a_placeholder) h
        slot_unfound (component_slot c) place h = child_unfound (child_at side.children place) h
        slot_unfound (fragment_slot no_trees) place h = single (number_at side.numbers place an_empty_fragment) h
        slot_unfound (fragment_slot (more_trees t ts)) place h = items_unfound 0 place (more_trees t ts) h

        items_unfound : (i : ℕ) (place : Place) (trees : Trees K) → is_in number (items_view side shows i place trees) ≡ false → find_items side number finds i place trees ≡ None
        items_unfound i place no_trees h = refl
        items_unfound i place (more_trees t ts) h =
            let both = joined_in number (tree_view side shows (place ++ item i ∷ []) t) (items_view side shows (i + 1) place ts) h in
            none_later
            (find_tree side number finds (place ++ item i ∷ []) t)
            (find_items side number finds (i + 1) place ts)
            (tree_unfound (place ++ item i ∷ []) t both.0)
            (items_unfound (i + 1) place ts both.1)

      side_unfound : (o : Option (Tree K)) → side.output ≡ o → is_in number (elim o as (λ z. Forest) [ None ↦ Empty | Some tree ↦ tree_view side shows [] tree ]) ≡ false
          → elim o as (λ z. Option (Climb K)) [ None ↦ None | Some tree ↦ find_tree side number finds [] tree ] ≡ None
      side_unfound None e h = refl
      side_unfound (Some tree) e h = tree_unfound [] tree h

    shown_unfound : (x : Scope K) (shows : ℕ → Forest) (finds : ℕ → Option (Climb K)) → Hidden shows finds → (o : Option SideName)
        → is_in number (elim o as (λ z. Forest) [ None ↦ Empty | Some name ↦ side_view shows (side_of x name) ]) ≡ false
        → elim o as (λ z. Option (Climb K)) [ None ↦ None | Some name ↦ find_side number finds (side_of x name) ] ≡ None
    shown_unfound x shows finds hides None h = refl
    shown_unfound x shows finds hides (Some name) h = side_unfound (side_of x name) shows finds hides (side_of x name).output refl h

    output_unfound : (shows : ℕ → Forest) (finds : ℕ → Option (Climb K)) → Hidden shows finds → (o : Option (Scope K)) → is_in number (scope_view shows o) ≡ false → find_output number finds o ≡ None
    output_unfound shows finds hides None h = refl
    output_unfound shows finds hides (Some x) h = shown_unfound x shows finds hides x.shows h

    within_unfound : (w : State K) (n s : ℕ) → is_in number (view_within w n s) ≡ false → find_within w number n s ≡ None
    within_unfound w zero s h = refl
    within_unfound w (suc n) s h =
        output_unfound (λ t. view_within w n t) (λ t. find_within w number n t) (λ t g. within_unfound w n t g) (at w.scopes s) h

  pub unheard : (w : State K) (name : Text) (element : ℕ) (bubbles : Bool) → is_in element (view w) ≡ false → heard w name element bubbles ≡ []
  unheard w name element bubbles h =
      let none : find_within w element (length w.scopes) 0 ≡ None = within_unfound element w (length w.scopes) 0 h in
      ap (λ (o : Option (Climb K)). heard_on name bubbles o) (either (nat_eq element 0) none)
    where
      either : (b : Bool) → find_within w element (length w.scopes) 0 ≡ None → (if b then None else find_within w element (length w.scopes) 0) ≡ None
      either true e = refl
      either false e = e
