-- The edits from one output to the other one, left to right, for every pair of slots.
use Rattle.std.proofs.Common.{ℕ, zero, suc, ◌+◌, ◌≤◌, Bool, false, ◌&&◌, List, [], ◌∷◌, ◌++◌, ◌≡◌, refl, sym, ap, subst, nat_eq, arith}
use Rattle.std.specs.Prelude.{Option, Some, None, not, if◌then◌else◌}
use Rattle.rt_model.specs.Lists.{Text, same_numbers}
use Rattle.rt_model.specs.Tree.{Types, TemplateNodes, no_nodes, element_node, text_node, slot_node, Template, same_template, Attribute, Tree, block, Slots, no_slots, more_slots, Slot, text_slot, placeholder_slot, component_slot, fragment_slot, Trees, no_trees, more_trees, item, Place, an_element, a_static_text, a_text, a_placeholder, an_empty_fragment, place_in}
use Rattle.rt_model.specs.World.{Application}
use Rattle.rt_model.specs.Values.{is_same_component}
use Rattle.rt_model.specs.Run.{child_at}
use Rattle.rt_model.specs.Heard.{number_at}
use Rattle.rt_model.specs.Document.{Content, DocElement, DocText, DocPlaceholder, Forest, Empty, Node, Edit, InsertNodesAfter, join_rows, leaf, count_of}
use Rattle.rt_model.specs.View.{element_attributes, element_listeners, child_view, nodes_view, tree_view, slots_view, slot_view, items_view}
use Rattle.rt_model.specs.Caused.{Written, writes, then_on, is_place, halts, built_whole, replaced_by, last_of, slot_pass, Both, any_around, child_written, slot_replaced, tree_written, slots_written, slot_written, items_written}
use Rattle.rt_model.proofs.Maps.{pick_false, by_test}
use Rattle.rt_model.proofs.SamePlaces.{numbers-true, template-true}
use Rattle.rt_model.proofs.ViewCounts.{count_join}
use Rattle.law_moves.specs.Settings.{counted, Brings}
use Rattle.law_moves.specs.Meets.{Performs, HasNode, NodesMeet, nodes_claims, ChildBrings, ChildMeets, child_claims, way_claims, TreeMeets, SlotsMeet, SlotMeets, ItemsMeet, tree_claims, slots_claims, slot_claims, items_claims}
use Rattle.law_headline.proofs.InRows.{join_empty}
use Rattle.law_headline.proofs.Changes.{nothing_brings, text_brings, removed_brings, replaced_brings, inserted_brings, both_bring, more_claimed, after_brings, children_bring, joined_bring, paired_bring}

-- edits without a stop
pub written_down : {es : List Edit} {f g : Forest} {m : ℕ → ℕ} → Brings es f g m → Performs (writes es) f g m
written_down a = record { goes_on = refl; brings = a }

-- equal rows, and equal parts
pub of_to : {w : Written} {f g p q : Forest} {m : ℕ → ℕ} → p ≡ f → q ≡ g → Performs w f g m → Performs w p q m
of_to {w = w} {f = f} {q = q} {m = m} e d a = subst (λ (x : Forest). Performs w x q m) (sym e) (subst (λ (x : Forest). Performs w f x m) (sym d) a)

pub is_written : {w u : Written} {f g : Forest} {m : ℕ → ℕ} → u ≡ w → Performs w f g m → Performs u f g m
is_written {f = f} {g = g} {m = m} e a = subst (λ (x : Written). Performs x f g m) (sym e) a

pub claims_more : {w : Written} {f g : Forest} {m n : ℕ → ℕ} → ((i : ℕ) → m i ≤ n i) → Performs w f g m → Performs w f g n
claims_more more a = record { goes_on = a.goes_on; brings = more_claimed more a.brings }

-- nothing stops the first part, so the second one is written after it
goes_on_after : (a b : Written) → a.stopped ≡ false → then_on a b ≡ record { edits = a.edits ++ b.edits; stopped = b.stopped }
goes_on_after a b h = pick_false _ _ h

pub two_parts : (a b : Written) {f g : Forest} {m : ℕ → ℕ} → a.stopped ≡ false → b.stopped ≡ false → Brings (a.edits ++ b.edits) f g m → Performs (then_on a b) f g m
two_parts a b h l both = is_written (goes_on_after a b h) (record { goes_on = l; brings = both })

beside_each_other : {a b : Written} {f g p q : Forest} {m n : ℕ → ℕ} → Performs a f g m → Performs b p q n → Performs (then_on a b) (join_rows f p) (join_rows g q) (λ i. m i + n i)
beside_each_other {a = a} {b = b} s t = two_parts a b s.goes_on t.goes_on (joined_bring s.brings t.brings)

after_nodes : {w : Written} {f g : Forest} {m : ℕ → ℕ} (nodes : Forest) → Performs w f g m → Performs w (join_rows nodes f) (join_rows nodes g) (λ i. count_of i nodes + m i)
after_nodes nodes a = record { goes_on = a.goes_on; brings = after_brings nodes a.brings }

-- a row with a node gives way
pub gives_way : (f g : Forest) → HasNode f → Performs (writes (replaced_by f g)) f g (λ i. count_of i f + count_of i g)
gives_way f g h =
    subst (λ (x : Forest). Performs (writes (replaced_by x g)) x g (λ i. count_of i x + count_of i g))
    (sym h.is)
    (written_down (replaced_brings h.id h.content h.children h.rest g))

-- nodes come in after it
comes_after : (m : ℕ) (f g : Forest) → HasNode f → Performs (writes (InsertNodesAfter (last_of m f) g ∷ [])) (join_rows f Empty) (join_rows f g) (λ i. count_of i f + count_of i g)
comes_after m f g h =
    of_to (join_empty f) refl
    (subst (λ (x : Forest). Performs (writes (InsertNodesAfter (last_of m x) g ∷ [])) x (join_rows x g) (λ i. count_of i x + count_of i g))
    (sym h.is)
    (written_down (inserted_brings m h.id h.content h.children h.rest g)))

-- where no place is refused, what is built is written whole
pub whole_built : (stop : Option Place) (place : Place) (es : List Edit) → stop ≡ None → built_whole stop place es ≡ writes es
whole_built None place es h = refl
whole_built (Some p) place es h = cc

-- a child is swept where no place is refused
pub child_goes : (stop : Option Place) (place : Place) (on_way : Bool) (w : Written) → stop ≡ None → (if is_place place stop && not on_way then halts else w) ≡ w
child_goes None place on_way w h = refl
child_goes (Some p) place on_way w h = cc

module _ {K : Types} (app : Application K) where
  none_holds : (place : Place) (i : ℕ) (stop : Option Place) (ts : Trees K) → stop ≡ None → any_around app place i stop ts ≡ false
  none_holds place i (Some p) ts h = cc
  none_holds place i None no_trees h = refl
  none_holds place i None (more_trees t ts) h = none_holds place (i + 1) None ts h

module _ {K : Types} (app : Application K) (b : Both K) (child : ℕ → Type 0) (claims : ℕ → ℕ → ℕ) (each : (t : ℕ) → child t → ChildBrings b claims t) where
  -- the nodes of a template, left to right, where of makes new of old in each slot
  nodes_perform : (whole : Template) (above : Place) (given : List (List (Attribute K))) (of : ℕ → Place → Written) (old new : ℕ → Place → Forest) (claim : ℕ → ℕ → Place → ℕ) (meets : ℕ → Place → Type 0)
      → ((k : ℕ) (place : Place) → meets k place → Performs (of k place) (old k place) (new k place) (λ n. claim n k place))
      → (nodes : TemplateNodes) (up : List ℕ) (i : ℕ)
      → NodesMeet b.old.numbers b.new.numbers whole above meets up i nodes
      → Performs
      (slot_pass of (place_in whole above) up i nodes)
      (nodes_view b.old.numbers whole above given old up i nodes)
      (nodes_view b.new.numbers whole above given new up i nodes)
      (λ n. nodes_claims n b.old.numbers whole above (claim n) up i nodes)
  nodes_perform whole above given of old new claim meets slots no_nodes up i h = written_down (nothing_brings Empty)
  nodes_perform whole above given of old new claim meets slots (element_node tag namespace attributes children rest) up i h =
      let content : Content = DocElement tag namespace (element_attributes given [] attributes) (element_listeners given [] attributes) in
      let number : ℕ = number_at b.old.numbers (place_in whole above up i) an_element in
      let inner = nodes_perform whole above given of old new claim meets slots children (up ++ i ∷ []) 0 h.1 in
      let later = nodes_perform whole above given of old new claim meets slots rest up (i + 1) h.2 in
      of_to refl
      (ap (λ (m : ℕ). Node m content (nodes_view b.new.numbers whole above given new (up ++ i ∷ []) 0 children) (nodes_view b.new.numbers whole above given new up (i + 1) rest)) h.0)
      (two_parts
      (slot_pass of (place_in whole above) (up ++ i ∷ []) 0 children)
      (slot_pass of (place_in whole above) up (i + 1) rest)
      inner.goes_on
      later.goes_on
      (joined_bring (children_bring number content inner.brings) later.brings))
  nodes_perform whole above given of old new claim meets slots (text_node text rest) up i h =
      let number : ℕ = number_at b.old.numbers (place_in whole above up i) a_static_text in
      let later = nodes_perform whole above given of old new claim meets slots rest up (i + 1) h.1 in
      of_to refl
      (ap (λ (m : ℕ). Node m (DocText text) Empty (nodes_view b.new.numbers whole above given new up (i + 1) rest)) h.0)
      (claims_more (λ n. omega arith) (after_nodes (leaf number (DocText text)) later))
  nodes_perform whole above given of old new claim meets slots (slot_node k rest) up i h =
      beside_each_other (slots k (place_in whole above up i) h.0) (nodes_perform whole above given of old new claim meets slots rest up (i + 1) h.1)

  module _ (unstopped : b.stop ≡ None) where
    abbrev shown_before : Place → Tree K → Forest
    shown_before above x = tree_view b.old b.old_child above x

    abbrev shown_after : Place → Tree K → Forest
    shown_after above y = tree_view b.new b.new_child above y

    slot_gives_way : (place : Place) (y x : Slot K) → HasNode (slot_view b.old b.old_child x place)
        → Performs (slot_replaced app b place y x) (slot_view b.old b.old_child x place) (slot_view b.new b.new_child y place) (λ n. way_claims app b claims n place y x)
    slot_gives_way place y x h =
        is_written (whole_built b.stop place (replaced_by (slot_view b.old b.old_child x place) (slot_view b.new b.new_child y place)) unstopped) (gives_way (slot_view b.old b.old_child x place) (slot_view b.new b.new_child y place) h)

    child_performs : (place : Place) (o : Option ℕ) → ChildMeets app b child o
        → Performs (child_written app b place o) (child_view b.old_child o) (child_view b.new_child o) (λ n. child_claims app b claims n o)
    child_performs place None h = written_down (nothing_brings Empty)
    child_performs place (Some t) h =
        is_written (child_goes b.stop place (b.on_way t) (b.under t) unstopped) (each t h).performs

    one_node : (n m : ℕ) (c : Content) → m ≡ n → Performs (writes []) (leaf n c) (leaf m c) (λ i. counted (nat_eq n i))
    one_node n m c h = of_to refl (ap (λ (x : ℕ). leaf x c) h) (claims_more (λ i. omega arith) (written_down (nothing_brings (leaf n c))))

    -- a pair of items, and then the others after the pair's new nodes
    pair_performs : (place : Place) (i last : ℕ) (y : Tree K) (ys : Trees K) (x : Tree K) (xs : Trees K)
        → Performs (tree_written app b (place ++ item i ∷ []) y x) (shown_before (place ++ item i ∷ []) x) (shown_after (place ++ item i ∷ []) y) (λ n. tree_claims app b claims n (place ++ item i ∷ []) y x)
        → Performs
        (items_written app b place (i + 1) (last_of last (shown_after (place ++ item i ∷ []) y)) ys xs)
        (join_rows (shown_after (place ++ item i ∷ []) y) (items_view b.old b.old_child (i + 1) place xs))
        (join_rows (shown_after (place ++ item i ∷ []) y) (items_view b.new b.new_child (i + 1) place ys))
        (λ n. count_of n (shown_after (place ++ item i ∷ []) y) + items_claims app b claims n place (i + 1) ys xs)
        → Performs
        (items_written app b place i last (more_trees y ys) (more_trees x xs))
        (items_view b.old b.old_child i place (more_trees x xs))
        (items_view b.new b.new_child i place (more_trees y ys))
        (λ n. items_claims app b claims n place i (more_trees y ys) (more_trees x xs))
    pair_performs place i last y ys x xs first others =
        let made : Forest = shown_after (place ++ item i ∷ []) y in
        let olds : Forest = items_view b.old b.old_child (i + 1) place xs in
        let news : Forest = items_view b.new b.new_child (i + 1) place ys in
        two_parts
        (tree_written app b (place ++ item i ∷ []) y x)
        (items_written app b place (i + 1) (last_of last made) ys xs)
        first.goes_on
        others.goes_on
        (paired_bring olds news first.brings (λ n. omega (arith, others.brings.old n, count_join n made olds)) others.brings)

    mutual
      -- two trees that meet
      pub tree_performs : (above : Place) (y x : Tree K) → TreeMeets app b child above y x
          → Performs (tree_written app b above y x) (shown_before above x) (shown_after above y) (λ n. tree_claims app b claims n above y x)
      tree_performs above (block template given slots) (block other others olds) h =
          by_test (same_template template other)
          (λ e.
          let met = h.0 e in
          let old_slot : ℕ → Place → Forest = λ k place. slots_view b.old b.old_child olds k place in
          let pass = nodes_perform template above given
          (λ k place. slots_written app b slots olds k place)
          old_slot
          (λ k place. slots_view b.new b.new_child slots k place)
          (λ n k place. slots_claims app b claims n slots olds k place)
          (λ k place. SlotsMeet app b child slots olds k place)
          (λ k place m. slots_perform slots olds k place m)
          template.roots [] 0 met.1 in
          rw e
          (of_to
          (ap (λ (t : Template). nodes_view b.old.numbers t above others old_slot [] 0 t.roots) (sym (template-true template other e)))
          refl
          (record {
            goes_on = pass.goes_on;
            brings = both_bring (more_claimed (λ n. pass.brings.old n) (met.0 old_slot)) pass.brings;
          })))
          (λ e.
          rw e
          (is_written (whole_built b.stop above (replaced_by (shown_before above (block other others olds)) (shown_after above (block template given slots))) unstopped)
          (gives_way (shown_before above (block other others olds)) (shown_after above (block template given slots)) (h.1 e))))

      slots_perform : (ys xs : Slots K) (k : ℕ) (place : Place) → SlotsMeet app b child ys xs k place
          → Performs (slots_written app b ys xs k place) (slots_view b.old b.old_child xs k place) (slots_view b.new b.new_child ys k place) (λ n. slots_claims app b claims n ys xs k place)
      slots_perform no_slots no_slots k place h = written_down (nothing_brings Empty)
      slots_perform no_slots (more_slots u others) k place h = absurd h
      slots_perform (more_slots v rest) no_slots k place h = absurd h
      slots_perform (more_slots v rest) (more_slots u others) zero place h = slot_performs place v u h
      slots_perform (more_slots v rest) (more_slots u others) (suc k) place h = slots_perform rest others k place h

      slot_performs : (place : Place) (y x : Slot K) → SlotMeets app b child place y x
          → Performs (slot_written app b place y x) (slot_view b.old b.old_child x place) (slot_view b.new b.new_child y place) (λ n. slot_claims app b claims n place y x)
      slot_performs place (text_slot t) (text_slot u) h =
          let number : ℕ = number_at b.old.numbers place a_text in
          of_to refl (ap (λ (m : ℕ). leaf m (DocText t)) h)
          (by_test (same_numbers u t)
          (λ e.
          rw e
          (of_to (ap (λ (s : Text). leaf number (DocText s)) (numbers-true u t e)) refl (one_node number number (DocText t) refl)))
          (λ e. rw e (written_down (text_brings number t u))))
      slot_performs place placeholder_slot placeholder_slot h =
          one_node (number_at b.old.numbers place a_placeholder) (number_at b.new.numbers place a_placeholder) DocPlaceholder h
      slot_performs place (component_slot c) (component_slot d) h =
          by_test (is_same_component app d c)
          (λ e. rw e (of_to refl (ap (λ (o : Option ℕ). child_view b.new_child o) ((h.0 e).0)) (child_performs place (child_at b.old.children place) ((h.0 e).1))))
          (λ e. rw e (slot_gives_way place (component_slot c) (component_slot d) (h.1 e)))
      slot_performs place (fragment_slot no_trees) (fragment_slot no_trees) h =
          one_node (number_at b.old.numbers place an_empty_fragment) (number_at b.new.numbers place an_empty_fragment) DocPlaceholder h
      slot_performs place (fragment_slot (more_trees y ys)) (fragment_slot (more_trees x xs)) h =
          pair_performs place 0 0 y ys x xs (tree_performs (place ++ item 0 ∷ []) y x h.0) (items_perform place 1 0 (shown_after (place ++ item 0 ∷ []) y) ys xs h.1 h.2)
      slot_performs place y x h = slot_gives_way place y x h

      items_perform : (place : Place) (i m : ℕ) (front : Forest) (ys xs : Trees K) → HasNode front → ItemsMeet app b child place i ys xs
          → Performs
          (items_written app b place i (last_of m front) ys xs)
          (join_rows front (items_view b.old b.old_child i place xs))
          (join_rows front (items_view b.new b.new_child i place ys))
          (λ n. count_of n front + items_claims app b claims n place i ys xs)
      items_perform place i m front no_trees xs r h = written_down (after_brings front (removed_brings (items_view b.old b.old_child i place xs)))
      items_perform place i m front (more_trees y ys) no_trees r h =
          is_written (pick_false halts (writes (InsertNodesAfter (last_of m front) (items_view b.new b.new_child i place (more_trees y ys)) ∷ [])) (none_holds app place i b.stop (more_trees y ys) unstopped))
          (comes_after m front (items_view b.new b.new_child i place (more_trees y ys)) r)
      items_perform place i m front (more_trees y ys) (more_trees x xs) r h =
          after_nodes front
          (pair_performs place i (last_of m front) y ys x xs
          (tree_performs (place ++ item i ∷ []) y x h.0)
          (items_perform place (i + 1) (last_of m front) (shown_after (place ++ item i ∷ []) y) ys xs h.1 h.2))
