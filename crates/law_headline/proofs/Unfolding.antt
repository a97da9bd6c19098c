-- The nodes of a scope are what its side shows with the nodes of its child scopes: no way down is too long.
use Rattle.std.proofs.Common.{ℕ, zero, suc, ◌+◌, ◌≤◌, List, [], ◌∷◌, ◌++◌, ◌≡◌, refl, sym, ap, ◌∙◌, arith, length}
use Rattle.std.specs.Prelude.{Option, Some, None}
use Rattle.rt_model.specs.Lists.{at}
use Rattle.rt_model.specs.Tree.{Types, TemplateNodes, no_nodes, element_node, text_node, slot_node, Template, Attribute, Tree, block, Slots, no_slots, more_slots, Slot, text_slot, placeholder_slot, component_slot, fragment_slot, Trees, no_trees, more_trees, item, Place, an_element, a_static_text, place_in}
use Rattle.rt_model.specs.State.{SideName, Side, Scope, State, side_of}
use Rattle.rt_model.specs.Run.{child_at}
use Rattle.rt_model.specs.Heard.{number_at}
use Rattle.rt_model.specs.Document.{Content, DocElement, DocText, Forest, Empty, Node, join_rows}
use Rattle.rt_model.specs.View.{element_attributes, element_listeners, child_view, nodes_view, tree_view, slots_view, slot_view, items_view, side_view, scope_view, view_within, nodes_of}
use Rattle.law_moves.specs.Trees.{IsTree}
use Rattle.law_headline.proofs.Heights.{height_low}

-- what a side shows where f and g give the same for each of its child scopes
module _ {K : Types} (side : Side K) (f g : ℕ → Forest) (same : (p : Place) (t : ℕ) → child_at side.children p ≡ Some t → f t ≡ g t) where
  child_same : (p : Place) (o : Option ℕ) → child_at side.children p ≡ o → child_view f o ≡ child_view g o
  child_same p None h = refl
  child_same p (Some t) h = same p t h

  nodes_same : (whole : Template) (above : Place) (given : List (List (Attribute K))) (one other : ℕ → Place → Forest)
      → ((k : ℕ) (place : Place) → one k place ≡ other k place)
      → (nodes : TemplateNodes) (up : List ℕ) (i : ℕ)
      → nodes_view side.numbers whole above given one up i nodes ≡ nodes_view side.numbers whole above given other up i nodes
  nodes_same whole above given one other slots no_nodes up i = refl
  nodes_same whole above given one other slots (element_node tag namespace attributes children rest) up i =
      let content : Content = DocElement tag namespace (element_attributes given [] attributes) (element_listeners given [] attributes) in
      let number : ℕ = number_at side.numbers (place_in whole above up i) an_element in
      ap (λ (x : Forest). Node number content x (nodes_view side.numbers whole above given one up (i + 1) rest)) (nodes_same whole above given one other slots children (up ++ i ∷ []) 0)
      ∙ ap (λ (x : Forest). Node number content (nodes_view side.numbers whole above given other (up ++ i ∷ []) 0 children) x) (nodes_same whole above given one other slots rest up (i + 1))
  nodes_same whole above given one other slots (text_node text rest) up i =
      ap (λ (x : Forest). Node (number_at side.numbers (place_in whole above up i) a_static_text) (DocText text) Empty x) (nodes_same whole above given one other slots rest up (i + 1))
  nodes_same whole above given one other slots (slot_node k rest) up i =
      ap (λ (x : Forest). join_rows x (nodes_view side.numbers whole above given one up (i + 1) rest)) (slots k (place_in whole above up i))
      ∙ ap (λ (x : Forest). join_rows (other k (place_in whole above up i)) x) (nodes_same whole above given one other slots rest up (i + 1))

  mutual
    pub tree_same : (above : Place) (x : Tree K) → tree_view side f above x ≡ tree_view side g above x
    tree_same above (block template given slots) =
        nodes_same template above given (λ k place. slots_view side f slots k place) (λ k place. slots_view side g slots k place) (λ k place. slots_same slots k place) template.roots [] 0

    slots_same : (slots : Slots K) (k : ℕ) (place : Place) → slots_view side f slots k place ≡ slots_view side g slots k place
    slots_same no_slots k place = refl
    slots_same (more_slots v rest) zero place = slot_same v place
    slots_same (more_slots v rest) (suc k) place = slots_same rest k place

    slot_same : (v : Slot K) (place : Place) → slot_view side f v place ≡ slot_view side g v place
    slot_same (text_slot text) place = refl
    slot_same placeholder_slot place = refl
    slot_same (component_slot c) place = child_same place (child_at side.children place) refl
    slot_same (fragment_slot no_trees) place = refl
    slot_same (fragment_slot (more_trees x xs)) place = items_same 0 place (more_trees x xs)

    items_same : (i : ℕ) (place : Place) (ts : Trees K) → items_view side f i place ts ≡ items_view side g i place ts
    items_same i place no_trees = refl
    items_same i place (more_trees x xs) =
        ap (λ (y : Forest). join_rows y (items_view side f (i + 1) place xs)) (tree_same (place ++ item i ∷ []) x)
        ∙ ap (λ (y : Forest). join_rows (tree_view side g (place ++ item i ∷ []) x) y) (items_same (i + 1) place xs)

module _ {K : Types} (w : State K) (tree : IsTree w) where
  abbrev of_output : Side K → (ℕ → Forest) → Option (Tree K) → Forest
  of_output side f o = elim o [ None ↦ Empty | Some x ↦ tree_view side f [] x ]

  abbrev of_shown : Scope K → (ℕ → Forest) → Option SideName → Forest
  of_shown x f o = elim o [ None ↦ Empty | Some name ↦ side_view f (side_of x name) ]

  output_same : (side : Side K) (f g : ℕ → Forest) (o : Option (Tree K)) → ((p : Place) (t : ℕ) → child_at side.children p ≡ Some t → f t ≡ g t) → of_output side f o ≡ of_output side g o
  output_same side f g None same = refl
  output_same side f g (Some x) same = tree_same side f g same [] x

  shown_same : (x : Scope K) (f g : ℕ → Forest) (o : Option SideName)
      → ((a : SideName) (p : Place) (t : ℕ) → child_at (side_of x a).children p ≡ Some t → f t ≡ g t)
      → of_shown x f o ≡ of_shown x g o
  shown_same x f g None same = refl
  shown_same x f g (Some a) same = output_same (side_of x a) f g (side_of x a).output (same a)

  -- where no scope lives nothing shows
  empty : (n s : ℕ) → at w.scopes s ≡ None → view_within w n s ≡ Empty
  empty zero s h = refl
  empty (suc n) s h = rw h refl

  -- so many scopes deep is deep enough below this scope
  abbrev Deep : ℕ → ℕ → Type 0
  Deep n s = (x : Scope K) → at w.scopes s ≡ Some x → length w.scopes ≤ x.height + n

  none_lives : (s : ℕ) → Deep 0 s → (o : Option (Scope K)) → at w.scopes s ≡ o → at w.scopes s ≡ None
  none_lives s d None h = h
  none_lives s d (Some x) h = absurd (omega (arith, height_low w tree s x h, d x h))

  deep_below : (n s t : ℕ) (x : Scope K) (a : SideName) (p : Place) → at w.scopes s ≡ Some x → child_at (side_of x a).children p ≡ Some t → Deep (suc n) s → Deep n t
  deep_below n s t x a p live kid d y lives = omega (arith, d x live, tree.child s t x y a p live kid lives)

  one_level : (n m s : ℕ) (o : Option (Scope K)) → at w.scopes s ≡ o
      → ((x : Scope K) → at w.scopes s ≡ Some x → (a : SideName) (p : Place) (t : ℕ) → child_at (side_of x a).children p ≡ Some t → view_within w n t ≡ view_within w m t)
      → view_within w (suc n) s ≡ view_within w (suc m) s
  one_level n m s None h go = empty (suc n) s h ∙ sym (empty (suc m) s h)
  one_level n m s (Some x) h go = rw h (shown_same x (λ t. view_within w n t) (λ t. view_within w m t) x.shows (go x h))

  -- deeper than enough shows nothing more
  deep_same : (n m s : ℕ) → Deep n s → Deep m s → view_within w n s ≡ view_within w m s
  deep_same zero m s d e = sym (empty m s (none_lives s d (at w.scopes s) refl))
  deep_same (suc n) zero s d e = empty (suc n) s (none_lives s e (at w.scopes s) refl)
  deep_same (suc n) (suc m) s d e =
      one_level n m s (at w.scopes s) refl (λ x live a p t kid. deep_same n m t (deep_below n s t x a p live kid d) (deep_below m s t x a p live kid e))

  pub tree_unfolds : (s : ℕ) → nodes_of w s ≡ scope_view (λ t. nodes_of w t) (at w.scopes s)
  tree_unfolds s = deep_same (length w.scopes) (suc (length w.scopes)) s (λ x live. omega arith) (λ x live. omega arith)
