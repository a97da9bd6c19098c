-- How often edits carry a number, and that what is written between two outputs that meet claims what it carries beside what showed.
use Rattle.std.proofs.Common.{ℕ, zero, suc, ◌+◌, ◌≤◌, Bool, true, false, ◌&&◌, not, List, [], ◌∷◌, ◌++◌, ◌≡◌, refl, sym, ap, ◌∙◌, arith, nat_eq, append_assoc}
use Rattle.std.specs.Prelude.{Option, Some, None, if◌then◌else◌, is_some}
use Rattle.rt_model.specs.Lists.{same_numbers, same_option}
use Rattle.rt_model.specs.Tree.{Types, TemplateAttribute, fixed, from_slot, TemplateNodes, no_nodes, element_node, text_node, slot_node, Template, same_template, AttributeValue, text_value, no_value, listener, Attribute, Tree, block, Slots, no_slots, more_slots, Slot, text_slot, placeholder_slot, component_slot, fragment_slot, Trees, no_trees, more_trees, item, Place, Kind, an_element, a_text, place_in, attributes_in}
use Rattle.rt_model.specs.World.{Application}
use Rattle.rt_model.specs.Values.{is_same_component}
use Rattle.rt_model.specs.State.{Side}
use Rattle.rt_model.specs.Run.{child_at}
use Rattle.rt_model.specs.Heard.{number_at}
use Rattle.rt_model.specs.Document.{Forest, Empty, Node, Edit, AppendChildren, SetNodeText, SetAttribute, CreateEventListener, RemoveEventListener, InsertNodesAfter, count_of}
use Rattle.rt_model.specs.View.{child_view, nodes_view, tree_view, slots_view, slot_view, items_view}
use Rattle.rt_model.specs.Caused.{Written, writes, halts, then_on, is_place, built_whole, is_around, removals, replaced_by, last_of, slot_pass, element_pass, attribute_pass, text_under, listens_under, one_left, left, one_come, come, attributes_written, Both, any_around, child_written, slot_replaced, tree_written, slots_written, slot_written, items_written}
use Rattle.rt_model.specs.Sentences.{numbers_in, carried, all_carried}
use Rattle.rt_model.proofs.Maps.{by_test}
use Rattle.rt_model.proofs.SamePlaces.{template-true}
use Rattle.rt_model.proofs.ViewCounts.{count_join}
use Rattle.law_moves.specs.Settings.{counted}
use Rattle.law_moves.specs.Meets.{NodesMeet, nodes_claims, ChildMeets, child_claims, way_claims, TreeMeets, SlotsMeet, SlotMeets, ItemsMeet, tree_claims, slots_claims, slot_claims, items_claims}

-- how often a number stands in a list
abbrev pub listed : ℕ → List ℕ → ℕ
listed n [] = 0
listed n (x ∷ xs) = counted (nat_eq x n) + listed n xs

-- how often edits carry a number
abbrev pub carries : ℕ → List Edit → ℕ
carries n es = listed n (all_carried es)

listed_both : (n : ℕ) (xs ys : List ℕ) → listed n (xs ++ ys) ≡ listed n xs + listed n ys
listed_both n [] ys = omega arith
listed_both n (x ∷ xs) ys = let later = listed_both n xs ys in omega (arith, later)

pub numbers_listed : (n : ℕ) (f : Forest) → listed n (numbers_in f) ≡ count_of n f
numbers_listed n Empty = refl
numbers_listed n (Node id content children rest) =
    omega (arith, listed_both n (numbers_in children) (numbers_in rest), numbers_listed n children, numbers_listed n rest)

pub carried_both : (es fs : List Edit) → all_carried (es ++ fs) ≡ all_carried es ++ all_carried fs
carried_both [] fs = refl
carried_both (e ∷ es) fs = ap (λ (xs : List ℕ). carried e ++ xs) (carried_both es fs) ∙ sym (append_assoc (carried e) (all_carried es) (all_carried fs))

carries_both : (n : ℕ) (es fs : List Edit) → carries n (es ++ fs) ≡ carries n es + carries n fs
carries_both n es fs = ap (λ (xs : List ℕ). listed n xs) (carried_both es fs) ∙ listed_both n (all_carried es) (all_carried fs)

-- a row that is appended is carried whole
pub appended_carries : (n id : ℕ) (f : Forest) → carries n (AppendChildren id f ∷ []) ≡ count_of n f
appended_carries n id f = omega (arith, listed_both n (numbers_in f) [], numbers_listed n f)

-- edits that carry nothing
abbrev Bare : List Edit → Type 0
Bare es = all_carried es ≡ []

both_bare : (es fs : List Edit) → Bare es → Bare fs → Bare (es ++ fs)
both_bare es fs h g = carried_both es fs ∙ ap (λ (xs : List ℕ). xs ++ all_carried fs) h ∙ g

one_bare : (b : Bool) (es fs : List Edit) → Bare es → Bare fs → Bare (if b then es else fs)
one_bare true es fs h g = h
one_bare false es fs h g = g

removals_bare : (f : Forest) → Bare (removals f)
removals_bare Empty = refl
removals_bare (Node id content children rest) = removals_bare rest

pub replaced_carries : (n : ℕ) (f g : Forest) → carries n (replaced_by f g) ≤ count_of n g
replaced_carries n Empty g = omega arith
replaced_carries n (Node id content children rest) g =
    let none : carries n (removals rest) ≡ 0 = ap (λ (xs : List ℕ). listed n xs) (removals_bare rest) in
    omega (arith, listed_both n (numbers_in g) (all_carried (removals rest)), numbers_listed n g, none)

module _ {K : Types} where
  one_left_bare : (number : ℕ) (new : List (Attribute K)) (a : Attribute K) (v : AttributeValue K) → Bare (one_left number new a v)
  one_left_bare number new a (text_value text) = one_bare (is_some (text_under a new)) [] (SetAttribute number a.name a.namespace None ∷ []) refl refl
  one_left_bare number new a no_value = refl
  one_left_bare number new a (listener origin handler) = one_bare (listens_under a new) [] (RemoveEventListener number a.name ∷ []) refl refl

  left_bare : (old new : List (Attribute K)) (number : ℕ) → Bare (left old new number)
  left_bare [] new number = refl
  left_bare (a ∷ rest) new number = both_bare (one_left number new a a.value) (left rest new number) (one_left_bare number new a a.value) (left_bare rest new number)

  one_come_bare : (number : ℕ) (old : List (Attribute K)) (a : Attribute K) (v : AttributeValue K) → Bare (one_come number old a v)
  one_come_bare number old a (text_value text) = one_bare (same_option same_numbers (text_under a old) (Some text)) [] (SetAttribute number a.name a.namespace (Some text) ∷ []) refl refl
  one_come_bare number old a no_value = refl
  one_come_bare number old a (listener origin handler) = one_bare (listens_under a old) [] (CreateEventListener number a.name ∷ []) refl refl

  come_bare : (new old : List (Attribute K)) (number : ℕ) → Bare (come new old number)
  come_bare [] old number = refl
  come_bare (a ∷ rest) old number = both_bare (one_come number old a a.value) (come rest old number) (one_come_bare number old a a.value) (come_bare rest old number)

element_bare : (of : ℕ → ℕ → List Edit) → ((k n : ℕ) → Bare (of k n)) → (number : ℕ) (attributes : List TemplateAttribute) → Bare (element_pass of number attributes)
element_bare of h number [] = refl
element_bare of h number (fixed name namespace value ∷ rest) = element_bare of h number rest
element_bare of h number (from_slot k ∷ rest) = both_bare (of k number) (element_pass of number rest) (h k number) (element_bare of h number rest)

pass_bare : (of : ℕ → ℕ → List Edit) → ((k n : ℕ) → Bare (of k n)) → (number : List ℕ → ℕ → ℕ) (up : List ℕ) (i : ℕ) (nodes : TemplateNodes) → Bare (attribute_pass of number up i nodes)
pass_bare of h number up i no_nodes = refl
pass_bare of h number up i (element_node tag namespace attributes children rest) =
    both_bare (element_pass of (number up i) attributes) (attribute_pass of number (up ++ i ∷ []) 0 children ++ attribute_pass of number up (i + 1) rest)
    (element_bare of h (number up i) attributes)
    (both_bare (attribute_pass of number (up ++ i ∷ []) 0 children) (attribute_pass of number up (i + 1) rest) (pass_bare of h number (up ++ i ∷ []) 0 children) (pass_bare of h number up (i + 1) rest))
pass_bare of h number up i (text_node text rest) = pass_bare of h number up (i + 1) rest
pass_bare of h number up i (slot_node k rest) = pass_bare of h number up (i + 1) rest

attributes_bare : {K : Types} (numbers : List (Place × Kind × ℕ)) (above : Place) (whole : Template) (new old : List (List (Attribute K))) → Bare (attributes_written numbers above whole new old)
attributes_bare numbers above whole new old =
    let number : List ℕ → ℕ → ℕ = λ up i. number_at numbers (place_in whole above up i) an_element in
    both_bare
    (attribute_pass (λ k n. left (attributes_in old k) (attributes_in new k) n) number [] 0 whole.roots)
    (attribute_pass (λ k n. come (attributes_in new k) (attributes_in old k) n) number [] 0 whole.roots)
    (pass_bare (λ k n. left (attributes_in old k) (attributes_in new k) n) (λ k n. left_bare (attributes_in old k) (attributes_in new k) n) number [] 0 whole.roots)
    (pass_bare (λ k n. come (attributes_in new k) (attributes_in old k) n) (λ k n. come_bare (attributes_in new k) (attributes_in old k) n) number [] 0 whole.roots)

-- what is written carries at most this
pub carried_in_both : (n : ℕ) (a b : Written) → carries n (then_on a b).edits ≤ carries n a.edits + carries n b.edits
carried_in_both n a b =
    by_test a.stopped
    (λ e. rw e (omega arith))
    (λ e. rw e (omega (arith, carries_both n a.edits b.edits)))

pub carried_if : (n m : ℕ) (b : Bool) (w u : Written) → carries n w.edits ≤ m → carries n u.edits ≤ m → carries n (if b then w else u).edits ≤ m
carried_if n m true w u h g = h
carried_if n m false w u h g = g

none_carried : (n m : ℕ) → carries n (halts).edits ≤ m
none_carried n m = omega arith

-- what showed, and what is carried beside it, is claimed
abbrev pub Within : ℕ → Written → Forest → ℕ → Type 0
Within n w f claim = count_of n f + carries n w.edits ≤ claim

-- only the shapes of the outputs matter: the two are to meet with any new numbers and children
module _ {K : Types} (app : Application K) (b : Both K) (other : Side K) (stand_in : ℕ → Forest) (child : ℕ → Type 0) (claims : ℕ → ℕ → ℕ) (n : ℕ)
    (each : (t : ℕ) → child t → Within n (b.under t) (b.old_child t) (claims t n)) where
  abbrev shape : Both K
  shape = record b { new = other; new_child = stand_in }

  way_carried : (place : Place) (stop : Option Place) (f g : Forest) → carries n (built_whole stop place (replaced_by f g)).edits ≤ count_of n g
  way_carried place stop f g = carried_if n (count_of n g) (is_around place stop) halts (writes (replaced_by f g)) (none_carried n (count_of n g)) (replaced_carries n f g)

  way_within : (place : Place) (y x : Slot K) → Within n (slot_replaced app b place y x) (slot_view b.old b.old_child x place) (way_claims app b claims n place y x)
  way_within place y x = omega (arith, way_carried place b.stop (slot_view b.old b.old_child x place) (slot_view b.new b.new_child y place))

  child_within : (place : Place) (o : Option ℕ) → ChildMeets app shape child o → Within n (child_written app b place o) (child_view b.old_child o) (child_claims app b claims n o)
  child_within place None h = omega arith
  child_within place (Some t) h =
      let inner = each t h in
      let most : carries n (if is_place place b.stop && not (b.on_way t) then halts else b.under t).edits ≤ carries n (b.under t).edits =
      carried_if n (carries n (b.under t).edits) (is_place place b.stop && not (b.on_way t)) halts (b.under t) (none_carried n (carries n (b.under t).edits)) (omega arith) in
      omega (arith, inner, most)

  nodes_within : (whole : Template) (above : Place) (given : List (List (Attribute K))) (of : ℕ → Place → Written) (old : ℕ → Place → Forest) (claim : ℕ → Place → ℕ) (meets : ℕ → Place → Type 0)
      → ((k : ℕ) (place : Place) → meets k place → Within n (of k place) (old k place) (claim k place))
      → (nodes : TemplateNodes) (up : List ℕ) (i : ℕ)
      → NodesMeet b.old.numbers other.numbers whole above meets up i nodes
      → Within n (slot_pass of (place_in whole above) up i nodes) (nodes_view b.old.numbers whole above given old up i nodes) (nodes_claims n b.old.numbers whole above claim up i nodes)
  nodes_within whole above given of old claim meets slots no_nodes up i h = omega arith
  nodes_within whole above given of old claim meets slots (element_node tag namespace attributes children rest) up i h =
      omega (
        arith,
        carried_in_both n (slot_pass of (place_in whole above) (up ++ i ∷ []) 0 children) (slot_pass of (place_in whole above) up (i + 1) rest),
        nodes_within whole above given of old claim meets slots children (up ++ i ∷ []) 0 h.1,
        nodes_within whole above given of old claim meets slots rest up (i + 1) h.2,
      )
  nodes_within whole above given of old claim meets slots (text_node text rest) up i h =
      omega (arith, nodes_within whole above given of old claim meets slots rest up (i + 1) h.1)
  nodes_within whole above given of old claim meets slots (slot_node k rest) up i h =
      let place : Place = place_in whole above up i in
      omega (
        arith,
        carried_in_both n (of k place) (slot_pass of (place_in whole above) up (i + 1) rest),
        slots k place h.0,
        nodes_within whole above given of old claim meets slots rest up (i + 1) h.1,
        count_join n (old k place) (nodes_view b.old.numbers whole above given old up (i + 1) rest),
      )

  mutual
    -- of trees that meet
    pub tree_within : (above : Place) (y x : Tree K) → TreeMeets app shape child above y x → Within n (tree_written app b above y x) (tree_view b.old b.old_child above x) (tree_claims app b claims n above y x)
    tree_within above (block template given slots) (block wanted others olds) h =
        by_test (same_template template wanted)
        (λ e.
        let view : tree_view b.old b.old_child above (block wanted others olds) ≡ tree_view b.old b.old_child above (block template others olds) =
        ap (λ (t : Template). tree_view b.old b.old_child above (block t others olds)) (sym (template-true template wanted e)) in
        let attributes : List Edit = attributes_written b.old.numbers above template given others in
        let none : carries n attributes ≡ 0 = ap (λ (xs : List ℕ). listed n xs) (attributes_bare b.old.numbers above template given others) in
        let pass : Written = slot_pass (λ k place. slots_written app b slots olds k place) (place_in template above) [] 0 template.roots in
        let slots_in =
        nodes_within template above others
        (λ k place. slots_written app b slots olds k place)
        (λ k place. slots_view b.old b.old_child olds k place)
        (λ k place. slots_claims app b claims n slots olds k place)
        (λ k place. SlotsMeet app shape child slots olds k place)
        (λ k place m. slots_within slots olds k place m)
        template.roots [] 0 ((h.0 e).1) in
        rw (e, view) (omega (arith, slots_in, none, carried_in_both n (writes attributes) pass)))
        (λ e.
        let way = way_carried above b.stop (tree_view b.old b.old_child above (block wanted others olds)) (tree_view b.new b.new_child above (block template given slots)) in
        rw e (omega (arith, way)))

    slots_within : (ys xs : Slots K) (k : ℕ) (place : Place) → SlotsMeet app shape child ys xs k place
        → Within n (slots_written app b ys xs k place) (slots_view b.old b.old_child xs k place) (slots_claims app b claims n ys xs k place)
    slots_within no_slots no_slots k place h = omega arith
    slots_within no_slots (more_slots u others) k place h = absurd h
    slots_within (more_slots v rest) no_slots k place h = absurd h
    slots_within (more_slots v rest) (more_slots u others) zero place h = slot_within place v u h
    slots_within (more_slots v rest) (more_slots u others) (suc k) place h = slots_within rest others k place h

    slot_within : (place : Place) (y x : Slot K) → SlotMeets app shape child place y x
        → Within n (slot_written app b place y x) (slot_view b.old b.old_child x place) (slot_claims app b claims n place y x)
    slot_within place (text_slot t) (text_slot u) h =
        let edit : Written = writes (SetNodeText (number_at b.old.numbers place a_text) t ∷ []) in
        let none = carried_if n 0 (same_numbers u t) (writes []) edit (omega arith) (omega arith) in
        omega (arith, none)
    slot_within place placeholder_slot placeholder_slot h = omega arith
    slot_within place (component_slot c) (component_slot d) h =
        by_test (is_same_component app d c)
        (λ e. rw e (child_within place (child_at b.old.children place) ((h.0 e).1)))
        (λ e. rw e (way_within place (component_slot c) (component_slot d)))
    slot_within place (fragment_slot no_trees) (fragment_slot no_trees) h = omega arith
    slot_within place (fragment_slot (more_trees y ys)) (fragment_slot (more_trees x xs)) h = items_within place 0 0 (more_trees y ys) (more_trees x xs) h
    slot_within place y x h = way_within place y x

    items_within : (place : Place) (i last : ℕ) (ys xs : Trees K) → ItemsMeet app shape child place i ys xs
        → Within n (items_written app b place i last ys xs) (items_view b.old b.old_child i place xs) (items_claims app b claims n place i ys xs)
    items_within place i last no_trees xs h =
        let none : carries n (removals (items_view b.old b.old_child i place xs)) ≡ 0 = ap (λ (m : List ℕ). listed n m) (removals_bare (items_view b.old b.old_child i place xs)) in
        omega (arith, none)
    items_within place i last (more_trees y ys) no_trees h =
        let news : Forest = items_view b.new b.new_child i place (more_trees y ys) in
        let one : carries n (InsertNodesAfter last news ∷ []) ≤ count_of n news = omega (arith, listed_both n (numbers_in news) [], numbers_listed n news) in
        let most = carried_if n (count_of n news) (any_around app place i b.stop (more_trees y ys)) halts (writes (InsertNodesAfter last news ∷ [])) (none_carried n (count_of n news)) one in
        omega (arith, most)
    items_within place i last (more_trees y ys) (more_trees x xs) h =
        let next : ℕ = last_of last (tree_view b.new b.new_child (place ++ item i ∷ []) y) in
        omega (
          arith,
          carried_in_both n (tree_written app b (place ++ item i ∷ []) y x) (items_written app b place (i + 1) next ys xs),
          tree_within (place ++ item i ∷ []) y x h.0,
          items_within place (i + 1) next ys xs h.2,
          count_join n (tree_view b.old b.old_child (place ++ item i ∷ []) x) (items_view b.old b.old_child (i + 1) place xs),
        )
