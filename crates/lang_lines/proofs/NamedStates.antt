-- States and open work with names, and small changes of them.
use Rattle.std.proofs.Common.{ℕ, zero, suc, ◌+◌, ◌≤◌, Bool, true, false, List, [], ◌∷◌, ◌++◌, ◌≡◌, ◌⊎◌, inl, inr, refl, sym, ◌∙◌, subst, nat_eq, arith}
use Rattle.std.specs.Prelude.{Option, Some, None, if◌then◌else◌}
use Rattle.std.specs.List.{AllByRecursion}
use Rattle.rt_model.specs.Lists.{Text, at, put}
use Rattle.rt_model.specs.Tree.{Types, TemplateNodes, no_nodes, element_node, text_node, slot_node, Template, Tree, block, Slots, no_slots, more_slots, Slot, text_slot, placeholder_slot, component_slot, fragment_slot, Trees, no_trees, more_trees, item, one_slot, placeholder_tree, VComponent, Own, Root, Fragment, ErrorBoundary, SuspenseBoundary, Element, rendered, failed, suspended, Place, Kind, place_in, Spot, node_at, component_at, node_spots, spots, slots_spots, slot_spots, item_spots}
use Rattle.rt_model.specs.World.{last_number, at_end}
use Rattle.rt_model.specs.State.{SideName, MainSide, ChildrenSide, FallbackSide, RowStep, Side, Scope, State, Item, Draw, Row, Feed, Make, Drop, Outcome, Done, Cut, onward, empty_side, side_of, with_side, new_scope, changed_scope, change}
use Rattle.rt_model.specs.Run.{error_tree, root_tree, children_tree, has_node, kept_numbers, drop_at, row_items}
use Rattle.rt_model.specs.Boundary.{children_of, tree_or_placeholder, drop_items}
use Rattle.rt_model.proofs.Maps.{by_test, at_here, at_there, at_put_here, at_put_other}
use Rattle.rt_model.proofs.SideFrames.{Stay, Alike, alike}
use Rattle.rt_model.proofs.NumbersRun.{Idle}
use Rattle.lang_lines.specs.Named.{NamedTree, NamedSlots, NamedSlot, NamedTrees, NamedComponent, NamedElement}
use Rattle.lang_lines.proofs.NamedViews.{AllSmall, NamedSide, NamedScope, NamedScopes}
use Rattle.lang_lines.proofs.NamedCuts.{Stays}

-- after a number that is drawn comes one that may be drawn, or the last one
pub drawn_on : (n : ℕ) → n ≤ last_number → at_end n ≡ false → n + 1 ≤ last_number
drawn_on n h e = grind (arith, h, e)

-- trees that stand in the definitions

one_slot_named : {K : Types} (v : Slot K) → NamedSlot v → NamedTree (one_slot v)
one_slot_named v h = (tt, tt, (h, tt))

pub placeholder_named : (K : Types) → NamedTree (placeholder_tree {K = K})
placeholder_named K = (tt, tt, (tt, tt))

pub error_named : (K : Types) (text : Text) → NamedTree (error_tree {K = K} text)
error_named K text = (
  (tt, refl, ((refl, refl), tt), tt, tt),
  tt,
  ((((tt, refl, tt, tt, tt), tt, (tt, tt)), tt), tt),
)

pub root_named : (K : Types) (component : K.Component) (props : K.Props) → NamedTree (root_tree {K = K} component props)
root_named K component props = (tt, tt, ((tt, tt, ((tt, tt, (tt, tt)), tt)), tt))

module _ {K : Types} where
  -- what is handed on by an item
  abbrev pub NamedItem : Item K → Type 0
  NamedItem (Draw s side p k) = Unit {0}
  NamedItem (Row b step) = Unit {0}
  NamedItem (Feed s side p c) = NamedComponent c
  NamedItem (Make s side p c) = NamedComponent c
  NamedItem (Drop t s side) = Unit {0}

  abbrev pub AllItems : List (Item K) → Type 0
  AllItems items = AllByRecursion (λ (i : Item K). NamedItem i) items

  pub items_both : (xs ys : List (Item K)) → AllItems xs → AllItems ys → AllItems (xs ++ ys)
  items_both [] ys h k = k
  items_both (x ∷ xs) ys h k = (h.0, items_both xs ys h.1 k)

  -- a state and open work with names, whose next node's number has at most 64 bits
  pub record NamedAt (w : State K) (work : List (Item K)) : Type 0 where
    pub low : w.next.elements ≤ last_number
    pub scopes : NamedScopes w
    pub items : AllItems work

  -- so it is after a change; where it was cut, without work
  abbrev pub NamedO : List (Item K) → Outcome K → Type 0
  NamedO rest (Done v work) = NamedAt v (work ++ rest)
  NamedO rest (Cut v fault) = NamedAt v []

  pub named_if : (rest : List (Item K)) (b : Bool) (x y : Outcome K) → NamedO rest x → NamedO rest y → NamedO rest (if b then x else y)
  named_if rest true x y h k = h
  named_if rest false x y h k = k

  -- what frames a scope, and its names

  named_by : (x y : Scope K) → x.component ≡ y.component → ((a : SideName) → side_of x a ≡ side_of y a) → NamedScope x → NamedScope y
  named_by x y c s h =
      record {
        component = subst (λ (z : VComponent K). NamedComponent z) c h.component;
        sides = λ a. subst (λ (z : Side K). NamedSide z) (s a) (h.sides a);
      }

  stay_scopes : (w v : State K) → Stay w v → NamedScopes w → NamedScopes v
  stay_scopes w v f h = λ s x e.
      let old : Alike (at w.scopes s) x = alike (at w.scopes s) x (f.frames s x e) in
      named_by old.old x old.component old.sides (h s old.old old.found)

  pub stay_named : (w v : State K) (rest : List (Item K)) → Stay w v → NamedAt w rest → NamedAt v rest
  stay_named w v rest f h =
      record { low = subst (λ (n : ℕ). n ≤ last_number) (sym f.elements) h.low; scopes = stay_scopes w v f h.scopes; items = h.items }

  -- without work
  pub at_rest_named : (w : State K) (work : List (Item K)) → NamedAt w work → NamedAt w []
  at_rest_named w work h = record { low = h.low; scopes = h.scopes; items = tt }

  -- a change that was cut
  pub cut_named : (w v : State K) (rest : List (Item K)) → Stay w v → NamedAt w rest → NamedAt v []
  cut_named w v rest s h = at_rest_named v rest (stay_named w v rest s h)

  pub onward_named : (w : State K) (rest : List (Item K)) (o : Outcome K) (f : State K → Outcome K) → Stays w o → NamedAt w rest → ((v : State K) → NamedAt v rest → NamedO rest (f v)) → NamedO rest (onward o f)
  onward_named w rest (Done v work) f s h g = g v (stay_named w v rest s h)
  onward_named w rest (Cut v fault) f s h g = cut_named w v rest s h

  -- a change that leads to no work
  pub idle_named : (w : State K) (rest : List (Item K)) (o : Outcome K) → Stays w o → Idle o → NamedAt w rest → NamedO rest o
  idle_named w rest (Done v work) s i h = subst (λ (xs : List (Item K)). NamedAt v (xs ++ rest)) (sym i) (stay_named w v rest s h)
  idle_named w rest (Cut v fault) s i h = cut_named w v rest s h

  -- more work
  pub work_named : (w : State K) (rest work : List (Item K)) → AllItems work → NamedAt w rest → NamedAt w (work ++ rest)
  work_named w rest work items h = record { low = h.low; scopes = h.scopes; items = items_both work rest items h.items }

  -- a scope's record changes, or a scope joins

  pub put_scopes : (w : State K) (s : ℕ) (x y : Scope K) → at w.scopes s ≡ Some x → NamedScope y → NamedScopes w → NamedScopes (record w { scopes = put w.scopes s y })
  put_scopes w s x y e g h = λ t z f.
      by_test (nat_eq s t)
      (λ q. let found : Some y ≡ Some z = sym (at_put_here w.scopes s y t q) ∙ f in let same : y ≡ z = cc in subst (λ (i : Scope K). NamedScope i) same g)
      (λ q. h t z (sym (at_put_other w.scopes s y t q) ∙ f))

  pub change_scopes : (w : State K) (s : ℕ) (f : Scope K → Scope K) → ((x : Scope K) → NamedScope x → NamedScope (f x)) → NamedScopes w → NamedScopes (change w s f)
  change_scopes w s f keeps h = on (at w.scopes s) refl
    where
      on : (o : Option (Scope K)) → at w.scopes s ≡ o → NamedScopes (changed_scope w s f o)
      on None e = h
      on (Some x) e = put_scopes w s x (f x) e (keeps x (h s x e)) h

  pub side_named : (x : Scope K) (side : SideName) (i : Side K) → NamedScope x → NamedSide i → NamedScope (with_side x side i)
  side_named x MainSide i h g = record { component = h.component; sides = λ a. each a }
    where
      each : (a : SideName) → NamedSide (side_of (with_side x MainSide i) a)
      each MainSide = g
      each ChildrenSide = h.sides ChildrenSide
      each FallbackSide = h.sides FallbackSide
  side_named x ChildrenSide i h g = record { component = h.component; sides = λ a. each a }
    where
      each : (a : SideName) → NamedSide (side_of (with_side x ChildrenSide i) a)
      each MainSide = h.sides MainSide
      each ChildrenSide = g
      each FallbackSide = h.sides FallbackSide
  side_named x FallbackSide i h g = record { component = h.component; sides = λ a. each a }
    where
      each : (a : SideName) → NamedSide (side_of (with_side x FallbackSide i) a)
      each MainSide = h.sides MainSide
      each ChildrenSide = h.sides ChildrenSide
      each FallbackSide = g

  pub empty_named : NamedSide {K = K} empty_side
  empty_named = record { small = tt; output = tt }

  pub new_named : (c : VComponent K) (parent : Option ℕ) (height : ℕ) (below : SideName) → NamedComponent c → NamedScope (new_scope c parent height below)
  new_named c parent height below h = record { component = h; sides = λ a. each a }
    where
      each : (a : SideName) → NamedSide (side_of (new_scope c parent height below) a)
      each MainSide = empty_named
      each ChildrenSide = empty_named
      each FallbackSide = empty_named

  joins_at : (es : List (ℕ × Scope K)) (n s : ℕ) (y x : Scope K) → at (es ++ (n, y) ∷ []) s ≡ Some x → (at es s ≡ Some x) ⊎ (y ≡ x)
  joins_at [] n s y x h =
      by_test (nat_eq n s)
      (λ q. let found : Some y ≡ Some x = sym (at_here n y [] s q) ∙ h in let same : y ≡ x = cc in inr same)
      (λ q. let absurdity : None ≡ Some x = sym (at_there n y [] s q) ∙ h in cc)
  joins_at (e ∷ es) n s y x h =
      by_test (nat_eq e.0 s)
      (λ q. inl (at_here e.0 e.1 es s q ∙ sym (at_here e.0 e.1 (es ++ (n, y) ∷ []) s q) ∙ h))
      (
      λ q.
      elim (joins_at es n s y x (sym (at_there e.0 e.1 (es ++ (n, y) ∷ []) s q) ∙ h)) [
        | inl found ↦ inl (at_there e.0 e.1 es s q ∙ found)
        | inr same ↦ inr same
      ]
      )

  pub joined_scopes : (w : State K) (n : ℕ) (y : Scope K) → NamedScope y → NamedScopes w → NamedScopes (record w { scopes = w.scopes ++ (n, y) ∷ [] })
  joined_scopes w n y g h = λ s x e.
      elim (joins_at w.scopes n s y x e) [ inl found ↦ h s x found | inr same ↦ subst (λ (i : Scope K). NamedScope i) same g ]

  -- the spots of a tree with names

  abbrev NamedSpot : Spot K → Type 0
  NamedSpot (node_at p k) = Unit {0}
  NamedSpot (component_at p c) = NamedComponent c

  abbrev pub AllSpots : List (Spot K) → Type 0
  AllSpots ss = AllByRecursion (λ (x : Spot K). NamedSpot x) ss

  spots_both : (xs ys : List (Spot K)) → AllSpots xs → AllSpots ys → AllSpots (xs ++ ys)
  spots_both [] ys h k = k
  spots_both (x ∷ xs) ys h k = (h.0, spots_both xs ys h.1 k)

  nodes_spotted : (whole : Template) (above : Place) (slot : ℕ → Place → List (Spot K)) (up : List ℕ) (i : ℕ) (nodes : TemplateNodes) → ((k : ℕ) (place : Place) → AllSpots (slot k place)) → AllSpots (node_spots whole above slot up i nodes)
  nodes_spotted whole above slot up i no_nodes each = tt
  nodes_spotted whole above slot up i (element_node tag namespace attributes children rest) each =
      (tt, spots_both (node_spots whole above slot (up ++ i ∷ []) 0 children) (node_spots whole above slot up (i + 1) rest) (nodes_spotted whole above slot (up ++ i ∷ []) 0 children each) (nodes_spotted whole above slot up (i + 1) rest each))
  nodes_spotted whole above slot up i (text_node text rest) each = (tt, nodes_spotted whole above slot up (i + 1) rest each)
  nodes_spotted whole above slot up i (slot_node k rest) each =
      spots_both (slot k (place_in whole above up i)) (node_spots whole above slot up (i + 1) rest) (each k (place_in whole above up i)) (nodes_spotted whole above slot up (i + 1) rest each)

  mutual
    pub tree_spotted : (above : Place) (tree : Tree K) → NamedTree tree → AllSpots (spots above tree)
    tree_spotted above (block template given slots) h =
        nodes_spotted template above (λ k place. slots_spots slots k place) [] 0 template.roots (λ k place. slots_spotted slots k place h.2)

    slots_spotted : (slots : Slots K) (k : ℕ) (place : Place) → NamedSlots slots → AllSpots (slots_spots slots k place)
    slots_spotted no_slots k place h = tt
    slots_spotted (more_slots v rest) zero place h = slot_spotted v place h.0
    slots_spotted (more_slots v rest) (suc k) place h = slots_spotted rest k place h.1

    slot_spotted : (v : Slot K) (place : Place) → NamedSlot v → AllSpots (slot_spots v place)
    slot_spotted (text_slot text) place h = (tt, tt)
    slot_spotted placeholder_slot place h = (tt, tt)
    slot_spotted (component_slot c) place h = (h, tt)
    slot_spotted (fragment_slot no_trees) place h = (tt, tt)
    slot_spotted (fragment_slot (more_trees t ts)) place h = items_spotted 0 place (more_trees t ts) h

    items_spotted : (i : ℕ) (place : Place) (ts : Trees K) → NamedTrees ts → AllSpots (item_spots i place ts)
    items_spotted i place no_trees h = tt
    items_spotted i place (more_trees t ts) h =
        spots_both (spots (place ++ item i ∷ []) t) (item_spots (i + 1) place ts) (tree_spotted (place ++ item i ∷ []) t h.0) (items_spotted (i + 1) place ts h.1)

  pub kept_small : (new : List (Spot K)) (numbers : List (Place × Kind × ℕ)) → AllSmall numbers → AllSmall (kept_numbers new numbers)
  kept_small new [] h = tt
  kept_small new (e ∷ es) h = either (has_node new e.0 e.1) (kept_small new es h.1)
    where
      either : (b : Bool) → AllSmall (kept_numbers new es) → AllSmall (if b then e ∷ kept_numbers new es else kept_numbers new es)
      either true later = (h.0, later)
      either false later = later

  pub rows_named : (w : State K) (b : ℕ) (steps : List RowStep) → AllByRecursion (λ (i : Item K). NamedItem i) (row_items b steps)
  rows_named w b [] = tt
  rows_named w b (step ∷ steps) = (tt, rows_named w b steps)

  pub drops_named : (w : State K) (b : ℕ) (side : SideName) (ts : List ℕ) → AllByRecursion (λ (i : Item K). NamedItem i) (drop_items b side ts)
  drops_named w b side [] = tt
  drops_named w b side (t ∷ ts) = (tt, drops_named w b side ts)

  pub drop_at_named : (old : List (Spot K)) (s : ℕ) (side : SideName) (o : Option ℕ) → AllByRecursion (λ (i : Item K). NamedItem i) (drop_at s side o)
  drop_at_named old s side None = tt
  drop_at_named old s side (Some t) = (tt, tt)

  -- the next numbers are as they were where a scope's record changes
  pub number_low : (w : State K) (s : ℕ) (f : Scope K → Scope K) (o : Option (Scope K)) → w.next.elements ≤ last_number → (changed_scope w s f o).next.elements ≤ last_number
  number_low w s f None h = h
  number_low w s f (Some x) h = h

  pub handed_side : (x : Scope K) (c : VComponent K) (a : SideName) → NamedSide (side_of x a) → NamedSide (side_of (record x { component = c }) a)
  handed_side x c MainSide h = h
  handed_side x c ChildrenSide h = h
  handed_side x c FallbackSide h = h

  pub without_first : (w : State K) (i : Item K) (rest : List (Item K)) → NamedAt w (i ∷ rest) → NamedAt w rest
  without_first w i rest h = record { low = h.low; scopes = h.scopes; items = h.items.1 }

  -- trees that stand in the definitions

  pub children_named : (e : Element K) → NamedElement e → NamedTree (children_tree e)
  children_named (rendered tree) h = one_slot_named (fragment_slot (more_trees tree no_trees)) (h, tt)
  children_named (failed error) h = placeholder_named K
  children_named (suspended origin task) h = placeholder_named K

  pub or_placeholder_named : (e : Element K) → NamedElement e → NamedTree (tree_or_placeholder e)
  or_placeholder_named (rendered tree) h = h
  or_placeholder_named (failed error) h = placeholder_named K
  or_placeholder_named (suspended origin task) h = placeholder_named K

  pub children_of_named : (c : VComponent K) → NamedComponent c → NamedTree (children_of c)
  children_of_named (SuspenseBoundary children fallback) h = or_placeholder_named children h
  children_of_named (Own component props) h = placeholder_named K
  children_of_named (Root component props) h = placeholder_named K
  children_of_named (Fragment children) h = placeholder_named K
  children_of_named (ErrorBoundary children handler) h = placeholder_named K
