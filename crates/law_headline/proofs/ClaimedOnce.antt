-- What is shown or claimed of a number between two outputs is so once at most, where the number has one home.
use Rattle.std.proofs.Common.{ℕ, zero, suc, ◌+◌, ◌≤◌, ◌<◌, Bool, true, false, List, [], ◌∷◌, ◌++◌, ◌≡◌, inl, inr, refl, sym, ap, ◌∙◌, subst, arith, nat_eq, append_assoc, append-nil}
use Rattle.std.specs.Prelude.{Option, Some, None, if◌then◌else◌}
use Rattle.std.proofs.lemmas.List.{append_cancel_left}
use Rattle.rt_model.specs.Tree.{Types, TemplateNodes, no_nodes, element_node, text_node, slot_node, Template, same_template, Attribute, Tree, block, template_of, Slots, no_slots, more_slots, Slot, text_slot, placeholder_slot, component_slot, fragment_slot, Trees, no_trees, more_trees, VComponent, inside, item, Place, Kind, an_element, a_static_text, a_text, a_placeholder, an_empty_fragment, Spot, node_at, component_at, place_in, node_spots, spots, slots_spots, slot_spots, item_spots}
use Rattle.rt_model.specs.World.{Application}
use Rattle.rt_model.specs.Values.{is_same_component}
use Rattle.rt_model.specs.State.{Side}
use Rattle.rt_model.specs.Run.{child_at}
use Rattle.rt_model.specs.Document.{Forest, join_rows, count_of}
use Rattle.rt_model.specs.Heard.{number_at}
use Rattle.rt_model.specs.View.{child_view, nodes_view, tree_view, slots_view, slot_view, items_view}
use Rattle.rt_model.specs.Caused.{Both}
use Rattle.rt_model.proofs.Among.{Among, among_left, among_right, template_same}
use Rattle.rt_model.proofs.SamePlaces.{template-true}
use Rattle.rt_model.proofs.ViewCounts.{count_join}
use Rattle.law_moves.specs.Settings.{counted}
use Rattle.law_moves.specs.Meets.{nodes_claims, child_claims, way_claims, tree_claims, slots_claims, slot_claims, items_claims}

-- once at most, and then this holds
abbrev pub Here : ℕ → Type 0 → Type 0
Here m R = (m ≤ 1) × (0 < m → R)

pub here_none : {R : Type 0} (m : ℕ) → m ≡ 0 → Here m R
here_none m e = (omega (arith, e), λ h. absurd (omega (arith, e, h)))

pub here_more : {P R : Type 0} (m n : ℕ) → m ≡ n → (P → R) → Here n P → Here m R
here_more m n e f h = let a = h.0 in (omega (arith, e, a), λ g. f (h.1 (omega (arith, e, g))))

pub here_sum : {P Q R : Type 0} (m n : ℕ) → (P → Q → ⊥) → (P → R) → (Q → R) → Here m P → Here n Q → Here (m + n) R
here_sum {P = P} {Q = Q} {R = R} zero n apart f g h k = (let b = k.0 in omega (arith, b), λ e. g (k.1 (omega (arith, e))))
here_sum {P = P} {Q = Q} {R = R} (suc m) zero apart f g h k = (let a = h.0 in omega (arith, a), λ e. f (h.1 (omega arith)))
here_sum {P = P} {Q = Q} {R = R} (suc m) (suc n) apart f g h k = absurd (apart (h.1 (omega arith)) (k.1 (omega arith)))

-- the place of a home, with the kind of its node, none where it is below a child
abbrev pub Tag : Type 0
Tag = Option Kind

inside_template : (t u : Template) (p q : List ℕ) (r s : Place) → inside t p ∷ r ≡ inside u q ∷ s → t ≡ u
inside_template t u p q r s h = cc

inside_path : (t u : Template) (p q : List ℕ) (r s : Place) → inside t p ∷ r ≡ inside u q ∷ s → p ≡ q
inside_path t u p q r s h = cc

first_same : (i j : ℕ) (p q : List ℕ) → i ∷ p ≡ j ∷ q → i ≡ j
first_same i j p q h = cc

item_same : (i j : ℕ) (r s : Place) → item i ∷ r ≡ item j ∷ s → i ≡ j
item_same i j r s h = cc

-- the place is in a tree of this template
abbrev pub InTree : Template → Place → Place → Type 0
InTree whole above q = (path : List ℕ) × (r : Place) × (q ≡ above ++ inside whole path ∷ r)

-- in a row of its nodes, from a position on
abbrev Row : Template → Place → List ℕ → ℕ → Place → Type 0
Row whole above up n q = (j : ℕ) × (path : List ℕ) × (r : Place) × (n ≤ j) × (q ≡ above ++ inside whole (up ++ j ∷ path) ∷ r)

-- at or below the node of one position
abbrev Head : Template → Place → List ℕ → ℕ → Place → Type 0
Head whole above up n q = (path : List ℕ) × (r : Place) × (q ≡ above ++ inside whole (up ++ n ∷ path) ∷ r)

abbrev Begins : Place → Place → Type 0
Begins place q = (r : Place) × (q ≡ place ++ r)

abbrev FromItem : Place → ℕ → Place → Type 0
FromItem place n q = (j : ℕ) × (r : Place) × (n ≤ j) × (q ≡ place ++ item j ∷ r)

head_apart : (whole : Template) (above : Place) (up : List ℕ) (n : ℕ) (q : Place) → Head whole above up n q → Row whole above up (n + 1) q → ⊥
head_apart whole above up n q h s =
    let steps = append_cancel_left above (inside whole (up ++ n ∷ h.0) ∷ h.1) (inside whole (up ++ s.0 ∷ s.1) ∷ s.2) (sym h.2 ∙ s.4) in
    let paths = append_cancel_left up (n ∷ h.0) (s.0 ∷ s.1) (inside_path whole whole (up ++ n ∷ h.0) (up ++ s.0 ∷ s.1) h.1 s.2 steps) in
    let same : n ≡ s.0 = first_same n s.0 h.0 s.1 paths in
    let low = s.3 in
    omega (arith, same, low)

row_head : (whole : Template) (above : Place) (up : List ℕ) (n : ℕ) (q : Place) → Head whole above up n q → Row whole above up n q
row_head whole above up n q h = (n, h.0, h.1, omega arith, h.2)

row_later : (whole : Template) (above : Place) (up : List ℕ) (n : ℕ) (q : Place) → Row whole above up (n + 1) q → Row whole above up n q
row_later whole above up n q s = let low = s.3 in (s.0, s.1, s.2, omega (arith, low), s.4)

abbrev row_deeper : (whole : Template) (above : Place) (up : List ℕ) (n : ℕ) (q : Place) → Row whole above (up ++ n ∷ []) 0 q → Head whole above up n q
row_deeper whole above up n q s = (s.0 ∷ s.1, s.2, s.4 ∙ ap (λ (p : List ℕ). above ++ inside whole p ∷ s.2) (append_assoc up (n ∷ []) (s.0 ∷ s.1)))

begins_head : (whole : Template) (above : Place) (up : List ℕ) (n : ℕ) (q : Place) → Begins (place_in whole above up n) q → Head whole above up n q
begins_head whole above up n q b = ([], b.0, b.1 ∙ append_assoc above (inside whole (up ++ n ∷ []) ∷ []) b.0)

own_apart : (whole : Template) (above : Place) (up : List ℕ) (n : ℕ) (q : Place) → q ≡ place_in whole above up n → Row whole above (up ++ n ∷ []) 0 q → ⊥
own_apart whole above up n q e s =
    let d = row_deeper whole above up n q s in
    let steps = append_cancel_left above (inside whole (up ++ n ∷ []) ∷ []) (inside whole (up ++ n ∷ d.0) ∷ d.1) (sym e ∙ d.2) in
    let paths = append_cancel_left up (n ∷ []) (n ∷ d.0) (inside_path whole whole (up ++ n ∷ []) (up ++ n ∷ d.0) [] d.1 steps) in
    let absurdity : n ∷ [] ≡ n ∷ (s.0 ∷ s.1) = paths in
    cc

begins_itself : (place q : Place) → q ≡ place → Begins place q
begins_itself place q e = ([], e ∙ sym (append-nil place))

-- what stands in a slot: a node of one kind, a component, or items
module _ {K : Types} where
  abbrev pub slot_tag : Slot K → Option Tag
  slot_tag (text_slot text) = Some (Some a_text)
  slot_tag placeholder_slot = Some (Some a_placeholder)
  slot_tag (component_slot c) = Some None
  slot_tag (fragment_slot no_trees) = Some (Some an_empty_fragment)
  slot_tag (fragment_slot (more_trees t ts)) = None

-- the home is that of a slot
abbrev pub OfSlot : Option Tag → Place → Place → Tag → Type 0
OfSlot (Some k) place q tag = (q ≡ place) × (tag ≡ k)
OfSlot None place q tag = FromItem place 0 q

no_item : (place : Place) (j : ℕ) (r : Place) → place ≡ place ++ item j ∷ r → ⊥
no_item place j r h = let steps : [] ≡ item j ∷ r = append_cancel_left place [] (item j ∷ r) (append-nil place ∙ h) in cc

slots_same : (a b : Option Tag) (place q : Place) (tag : Tag) → OfSlot a place q tag → OfSlot b place q tag → a ≡ b
slots_same (Some k) (Some l) place q tag h g = ap (λ (t : Tag). Some t) (sym h.1 ∙ g.1)
slots_same (Some k) None place q tag h g = absurd (no_item place g.0 g.1 (sym h.0 ∙ g.3))
slots_same None (Some l) place q tag h g = absurd (no_item place h.0 h.1 (sym g.0 ∙ h.3))
slots_same None None place q tag h g = refl

slot_begins : (a : Option Tag) (place q : Place) (tag : Tag) → OfSlot a place q tag → Begins place q
slot_begins (Some k) place q tag h = begins_itself place q h.0
slot_begins None place q tag h = (item h.0 ∷ h.1, h.3)

-- the homes of a number: at one place, and of one kind
module _ (home : Place → Tag → Type 0) (one : (p q : Place) (k l : Tag) → home p k → home q l → (p ≡ q) × (k ≡ l)) where
  -- the home is at a place of which this holds
  abbrev pub At : (Place → Tag → Type 0) → Type 0
  At R = (q : Place) × (tag : Tag) × home q tag × R q tag

  abbrev pub AtPlace : (Place → Type 0) → Type 0
  AtPlace R = (q : Place) × (tag : Tag) × home q tag × R q

  apart_at : (P Q : Place → Type 0) → ((q : Place) → P q → Q q → ⊥) → AtPlace P → AtPlace Q → ⊥
  apart_at P Q f a b = f b.0 (subst (λ (p : Place). P p) (one a.0 b.0 a.1 b.1 a.2 b.2).0 a.3) b.3

  more_at : (P Q : Place → Type 0) → ((q : Place) → P q → Q q) → AtPlace P → AtPlace Q
  more_at P Q f a = (a.0, a.1, a.2, f a.0 a.3)

  here_two : (m n : ℕ) (P Q R : Place → Type 0) → ((q : Place) → P q → Q q → ⊥) → ((q : Place) → P q → R q) → ((q : Place) → Q q → R q) → Here m (AtPlace P) → Here n (AtPlace Q) → Here (m + n) (AtPlace R)
  here_two m n P Q R apart f g h k = here_sum m n (λ a b. apart_at P Q apart a b) (λ a. more_at P R f a) (λ b. more_at Q R g b) h k

  here_at : (m n : ℕ) (P Q : Place → Type 0) → m ≡ n → ((q : Place) → P q → Q q) → Here n (AtPlace P) → Here m (AtPlace Q)
  here_at m n P Q e f h = here_more m n e (λ a. more_at P Q f a) h

  -- sums over the rows of a template: own gives what each node counts, of what each slot does
  module _ (whole : Template) (above : Place) (own : Place → Kind → ℕ) (of : ℕ → Place → ℕ) where
    abbrev rows_sum : List ℕ → ℕ → TemplateNodes → ℕ
    rows_sum up n no_nodes = 0
    rows_sum up n (element_node tag namespace attributes children rest) = (own (place_in whole above up n) an_element + rows_sum (up ++ n ∷ []) 0 children) + rows_sum up (n + 1) rest
    rows_sum up n (text_node text rest) = own (place_in whole above up n) a_static_text + rows_sum up (n + 1) rest
    rows_sum up n (slot_node k rest) = of k (place_in whole above up n) + rows_sum up (n + 1) rest

  module _ {K : Types} (whole : Template) (above : Place) (own : Place → Kind → ℕ) (of : ℕ → Place → ℕ) (ss : ℕ → Place → List (Spot K)) (known : Spot K → Type 0)
      (node : (q : Place) (k : Kind) → known (node_at q k) → Here (own q k) (home q (Some k)))
      (slot : (k : ℕ) (q : Place) → ((e : Spot K) → Among (ss k q) e → known e) → Here (of k q) (AtPlace (λ p. Begins q p))) where
    rows_here : (nodes : TemplateNodes) (up : List ℕ) (n : ℕ) → ((e : Spot K) → Among (node_spots whole above ss up n nodes) e → known e) → Here (rows_sum whole above own of up n nodes) (AtPlace (λ p. Row whole above up n p))
    rows_here no_nodes up n all = here_none 0 refl
    rows_here (element_node tag namespace attributes children rest) up n all =
        let xs : List (Spot K) = node_spots whole above ss (up ++ n ∷ []) 0 children in
        let ys : List (Spot K) = node_spots whole above ss up (n + 1) rest in
        let q0 : Place = place_in whole above up n in
        let mine : Here (own q0 an_element) (AtPlace (λ p. p ≡ q0)) = here_more (own q0 an_element) (own q0 an_element) refl (λ h. (q0, Some an_element, h, refl)) (node q0 an_element (all (node_at q0 an_element) (inl refl))) in
        let deep = rows_here children (up ++ n ∷ []) 0 (λ e g. all e (inr (among_left xs ys e g))) in
        let later = rows_here rest up (n + 1) (λ e g. all e (inr (among_right xs ys e g))) in
        here_two (own q0 an_element + rows_sum whole above own of (up ++ n ∷ []) 0 children) (rows_sum whole above own of up (n + 1) rest) (λ p. Head whole above up n p) (λ p. Row whole above up (n + 1) p) (λ p. Row whole above up n p)
        (λ p a b. head_apart whole above up n p a b) (λ p a. row_head whole above up n p a) (λ p b. row_later whole above up n p b)
        (here_two (own q0 an_element) (rows_sum whole above own of (up ++ n ∷ []) 0 children) (λ p. p ≡ q0) (λ p. Row whole above (up ++ n ∷ []) 0 p) (λ p. Head whole above up n p)
        (λ p a b. own_apart whole above up n p a b) (λ p a. begins_head whole above up n p (begins_itself q0 p a)) (λ p b. row_deeper whole above up n p b) mine deep)
        later
    rows_here (text_node text rest) up n all =
        let q0 : Place = place_in whole above up n in
        let mine : Here (own q0 a_static_text) (AtPlace (λ p. p ≡ q0)) = here_more (own q0 a_static_text) (own q0 a_static_text) refl (λ h. (q0, Some a_static_text, h, refl)) (node q0 a_static_text (all (node_at q0 a_static_text) (inl refl))) in
        here_two (own q0 a_static_text) (rows_sum whole above own of up (n + 1) rest) (λ p. p ≡ q0) (λ p. Row whole above up (n + 1) p) (λ p. Row whole above up n p)
        (λ p a b. head_apart whole above up n p (begins_head whole above up n p (begins_itself q0 p a)) b)
        (λ p a. row_head whole above up n p (begins_head whole above up n p (begins_itself q0 p a))) (λ p b. row_later whole above up n p b) mine (rows_here rest up (n + 1) (λ e g. all e (inr g)))
    rows_here (slot_node k rest) up n all =
        let q0 : Place = place_in whole above up n in
        let xs : List (Spot K) = ss k q0 in
        let ys : List (Spot K) = node_spots whole above ss up (n + 1) rest in
        here_two (of k q0) (rows_sum whole above own of up (n + 1) rest) (λ p. Begins q0 p) (λ p. Row whole above up (n + 1) p) (λ p. Row whole above up n p)
        (λ p a b. head_apart whole above up n p (begins_head whole above up n p a) b) (λ p a. row_head whole above up n p (begins_head whole above up n p a)) (λ p b. row_later whole above up n p b)
        (slot k q0 (λ e g. all e (among_left xs ys e g))) (rows_here rest up (n + 1) (λ e g. all e (among_right xs ys e g)))

  row_in : (whole : Template) (above : Place) (q : Place) → Row whole above [] 0 q → InTree whole above q
  row_in whole above q s = (s.0 ∷ s.1, s.2, s.4)

  in_begins : (whole : Template) (above : Place) (q : Place) → InTree whole above q → Begins above q
  in_begins whole above q s = (inside whole s.0 ∷ s.1, s.2)

  abbrev item_begins : (place : Place) (n : ℕ) (q : Place) → Begins (place ++ item n ∷ []) q → FromItem place n q
  item_begins place n q b = (n, b.0, omega arith, b.1 ∙ append_assoc place (item n ∷ []) b.0)

  item_later : (place : Place) (n : ℕ) (q : Place) → FromItem place (n + 1) q → FromItem place n q
  item_later place n q s = let low = s.2 in (s.0, s.1, omega (arith, low), s.3)

  item_apart : (place : Place) (n : ℕ) (q : Place) → Begins (place ++ item n ∷ []) q → FromItem place (n + 1) q → ⊥
  item_apart place n q b s =
      let a = item_begins place n q b in
      let steps = append_cancel_left place (item n ∷ b.0) (item s.0 ∷ s.1) (sym a.3 ∙ s.3) in
      let same : n ≡ s.0 = item_same n s.0 b.0 s.1 steps in
      let low = s.2 in
      omega (arith, same, low)

  -- how often a number stands in what an output shows
  module _ {K : Types} (side : Side K) (inner : ℕ → Forest) (i : ℕ) where
    -- what is known of a spot: where it shows the number, that is its home
    abbrev pub Known : Spot K → Type 0
    Known (node_at q k) = Here (counted (nat_eq (number_at side.numbers q k) i)) (home q (Some k))
    Known (component_at q c) = Here (count_of i (child_view inner (child_at side.children q))) (home q None)

    rows_count : (whole : Template) (above : Place) (given : List (List (Attribute K))) (under : ℕ → Place → Forest) (nodes : TemplateNodes) (up : List ℕ) (n : ℕ)
        → count_of i (nodes_view side.numbers whole above given under up n nodes) ≡ rows_sum whole above (λ q k. counted (nat_eq (number_at side.numbers q k) i)) (λ k q. count_of i (under k q)) up n nodes
    rows_count whole above given under no_nodes up n = refl
    rows_count whole above given under (element_node tag namespace attributes children rest) up n =
        let a = rows_count whole above given under children (up ++ n ∷ []) 0 in let b = rows_count whole above given under rest up (n + 1) in omega (arith, a, b)
    rows_count whole above given under (text_node text rest) up n = let b = rows_count whole above given under rest up (n + 1) in omega (arith, b)
    rows_count whole above given under (slot_node k rest) up n =
        let b = rows_count whole above given under rest up (n + 1) in
        let joined = count_join i (under k (place_in whole above up n)) (nodes_view side.numbers whole above given under up (n + 1) rest) in
        omega (arith, b, joined)

    leaf_counted : (m : ℕ) (q : Place) (k : Kind) → m ≡ counted (nat_eq (number_at side.numbers q k) i) → Here (counted (nat_eq (number_at side.numbers q k) i)) (home q (Some k)) → Here m (At (λ p tag. OfSlot (Some (Some k)) q p tag))
    leaf_counted m q k e h = here_more m (counted (nat_eq (number_at side.numbers q k) i)) e (λ g. (q, Some k, g, (refl, refl))) h

    mutual
      pub tree_counted : (above : Place) (x : Tree K) → ((e : Spot K) → Among (spots above x) e → Known e) → Here (count_of i (tree_view side inner above x)) (AtPlace (λ p. InTree (template_of x) above p))
      tree_counted above (block template attributes slots) all =
          here_at (count_of i (tree_view side inner above (block template attributes slots)))
          (rows_sum template above (λ q k. counted (nat_eq (number_at side.numbers q k) i)) (λ k q. count_of i (slots_view side inner slots k q)) [] 0 template.roots)
          (λ p. Row template above [] 0 p) (λ p. InTree template above p)
          (rows_count template above attributes (λ k q. slots_view side inner slots k q) template.roots [] 0) (λ p s. row_in template above p s)
          (rows_here template above (λ q k. counted (nat_eq (number_at side.numbers q k) i)) (λ k q. count_of i (slots_view side inner slots k q)) (λ k q. slots_spots slots k q) (λ e. Known e) (λ q k h. h)
          (λ k q known. slots_counted slots k q known) template.roots [] 0 all)

      slots_counted : (slots : Slots K) (k : ℕ) (q : Place) → ((e : Spot K) → Among (slots_spots slots k q) e → Known e) → Here (count_of i (slots_view side inner slots k q)) (AtPlace (λ p. Begins q p))
      slots_counted no_slots k q all = here_none 0 refl
      slots_counted (more_slots v rest) zero q all =
          here_more (count_of i (slot_view side inner v q)) (count_of i (slot_view side inner v q)) refl (λ a. (a.0, a.1, a.2, slot_begins (slot_tag v) q a.0 a.1 a.3)) (slot_counted v q all)
      slots_counted (more_slots v rest) (suc k) q all = slots_counted rest k q all

      pub slot_counted : (v : Slot K) (q : Place) → ((e : Spot K) → Among (slot_spots v q) e → Known e) → Here (count_of i (slot_view side inner v q)) (At (λ p tag. OfSlot (slot_tag v) q p tag))
      slot_counted (text_slot text) q all = leaf_counted (count_of i (slot_view side inner (text_slot text) q)) q a_text (omega arith) (all (node_at q a_text) (inl refl))
      slot_counted placeholder_slot q all = leaf_counted (count_of i (slot_view side inner placeholder_slot q)) q a_placeholder (omega arith) (all (node_at q a_placeholder) (inl refl))
      slot_counted (component_slot c) q all =
          here_more (count_of i (child_view inner (child_at side.children q))) (count_of i (child_view inner (child_at side.children q))) refl (λ h. (q, None, h, (refl, refl))) (all (component_at q c) (inl refl))
      slot_counted (fragment_slot no_trees) q all = leaf_counted (count_of i (slot_view side inner (fragment_slot no_trees) q)) q an_empty_fragment (omega arith) (all (node_at q an_empty_fragment) (inl refl))
      slot_counted (fragment_slot (more_trees t ts)) q all = items_counted (more_trees t ts) 0 q all

      pub items_counted : (ts : Trees K) (n : ℕ) (q : Place) → ((e : Spot K) → Among (item_spots n q ts) e → Known e) → Here (count_of i (items_view side inner n q ts)) (AtPlace (λ p. FromItem q n p))
      items_counted no_trees n q all = here_none 0 refl
      items_counted (more_trees t ts) n q all =
          let xs : List (Spot K) = spots (q ++ item n ∷ []) t in
          let ys : List (Spot K) = item_spots (n + 1) q ts in
          let a : Forest = tree_view side inner (q ++ item n ∷ []) t in
          let b : Forest = items_view side inner (n + 1) q ts in
          here_at (count_of i (join_rows a b)) (count_of i a + count_of i b) (λ p. FromItem q n p) (λ p. FromItem q n p) (count_join i a b) (λ p s. s)
          (here_two (count_of i a) (count_of i b) (λ p. InTree (template_of t) (q ++ item n ∷ []) p) (λ p. FromItem q (n + 1) p) (λ p. FromItem q n p)
          (λ p c d. item_apart q n p (in_begins (template_of t) (q ++ item n ∷ []) p c) d) (λ p c. item_begins q n p (in_begins (template_of t) (q ++ item n ∷ []) p c)) (λ p d. item_later q n p d)
          (tree_counted (q ++ item n ∷ []) t (λ e g. all e (among_left xs ys e g))) (items_counted ts (n + 1) q (λ e g. all e (among_right xs ys e g))))

  -- sums over the rows of a template that both outputs have
  module _ {K : Types} (whole : Template) (above : Place) (own : Place → Kind → ℕ) (of : ℕ → Place → ℕ) (ss rs : ℕ → Place → List (Spot K)) (pair : List (Spot K) → List (Spot K) → Type 0)
      (less : (ys xs us vs : List (Spot K)) → ((e : Spot K) → Among us e → Among ys e) → ((e : Spot K) → Among vs e → Among xs e) → pair ys xs → pair us vs)
      (node : (ys xs : List (Spot K)) (q : Place) (k : Kind) → pair ys xs → Among xs (node_at q k) → Here (own q k) (home q (Some k)))
      (slot : (k : ℕ) (q : Place) → pair (ss k q) (rs k q) → Here (of k q) (AtPlace (λ p. Begins q p))) where
    rows_pair : (nodes : TemplateNodes) (up : List ℕ) (n : ℕ) → pair (node_spots whole above ss up n nodes) (node_spots whole above rs up n nodes) → Here (rows_sum whole above own of up n nodes) (AtPlace (λ p. Row whole above up n p))
    rows_pair no_nodes up n all = here_none 0 refl
    rows_pair (element_node tag namespace attributes children rest) up n all =
        let ys : List (Spot K) = node_spots whole above ss (up ++ n ∷ []) 0 children in
        let zs : List (Spot K) = node_spots whole above ss up (n + 1) rest in
        let us : List (Spot K) = node_spots whole above rs (up ++ n ∷ []) 0 children in
        let vs : List (Spot K) = node_spots whole above rs up (n + 1) rest in
        let q0 : Place = place_in whole above up n in
        let e0 : Spot K = node_at q0 an_element in
        let mine : Here (own q0 an_element) (AtPlace (λ p. p ≡ q0)) = here_more (own q0 an_element) (own q0 an_element) refl (λ h. (q0, Some an_element, h, refl)) (node (e0 ∷ (ys ++ zs)) (e0 ∷ (us ++ vs)) q0 an_element all (inl refl)) in
        let deep = rows_pair children (up ++ n ∷ []) 0 (less (e0 ∷ (ys ++ zs)) (e0 ∷ (us ++ vs)) ys us (λ e g. inr (among_left ys zs e g)) (λ e g. inr (among_left us vs e g)) all) in
        let later = rows_pair rest up (n + 1) (less (e0 ∷ (ys ++ zs)) (e0 ∷ (us ++ vs)) zs vs (λ e g. inr (among_right ys zs e g)) (λ e g. inr (among_right us vs e g)) all) in
        here_two (own q0 an_element + rows_sum whole above own of (up ++ n ∷ []) 0 children) (rows_sum whole above own of up (n + 1) rest) (λ p. Head whole above up n p) (λ p. Row whole above up (n + 1) p) (λ p. Row whole above up n p)
        (λ p a b. head_apart whole above up n p a b) (λ p a. row_head whole above up n p a) (λ p b. row_later whole above up n p b)
        (here_two (own q0 an_element) (rows_sum whole above own of (up ++ n ∷ []) 0 children) (λ p. p ≡ q0) (λ p. Row whole above (up ++ n ∷ []) 0 p) (λ p. Head whole above up n p)
        (λ p a b. own_apart whole above up n p a b) (λ p a. begins_head whole above up n p (begins_itself q0 p a)) (λ p b. row_deeper whole above up n p b) mine deep)
        later
    rows_pair (text_node text rest) up n all =
        let zs : List (Spot K) = node_spots whole above ss up (n + 1) rest in
        let vs : List (Spot K) = node_spots whole above rs up (n + 1) rest in
        let q0 : Place = place_in whole above up n in
        let e0 : Spot K = node_at q0 a_static_text in
        let mine : Here (own q0 a_static_text) (AtPlace (λ p. p ≡ q0)) = here_more (own q0 a_static_text) (own q0 a_static_text) refl (λ h. (q0, Some a_static_text, h, refl)) (node (e0 ∷ zs) (e0 ∷ vs) q0 a_static_text all (inl refl)) in
        here_two (own q0 a_static_text) (rows_sum whole above own of up (n + 1) rest) (λ p. p ≡ q0) (λ p. Row whole above up (n + 1) p) (λ p. Row whole above up n p)
        (λ p a b. head_apart whole above up n p (begins_head whole above up n p (begins_itself q0 p a)) b)
        (λ p a. row_head whole above up n p (begins_head whole above up n p (begins_itself q0 p a))) (λ p b. row_later whole above up n p b) mine
        (rows_pair rest up (n + 1) (less (e0 ∷ zs) (e0 ∷ vs) zs vs (λ e g. inr g) (λ e g. inr g) all))
    rows_pair (slot_node k rest) up n all =
        let q0 : Place = place_in whole above up n in
        let ys : List (Spot K) = ss k q0 in
        let zs : List (Spot K) = node_spots whole above ss up (n + 1) rest in
        let us : List (Spot K) = rs k q0 in
        let vs : List (Spot K) = node_spots whole above rs up (n + 1) rest in
        here_two (of k q0) (rows_sum whole above own of up (n + 1) rest) (λ p. Begins q0 p) (λ p. Row whole above up (n + 1) p) (λ p. Row whole above up n p)
        (λ p a b. head_apart whole above up n p (begins_head whole above up n p a) b) (λ p a. row_head whole above up n p (begins_head whole above up n p a)) (λ p b. row_later whole above up n p b)
        (slot k q0 (less (ys ++ zs) (us ++ vs) ys us (λ e g. among_left ys zs e g) (λ e g. among_left us vs e g) all))
        (rows_pair rest up (n + 1) (less (ys ++ zs) (us ++ vs) zs vs (λ e g. among_right ys zs e g) (λ e g. among_right us vs e g) all))

  -- what the edits between two outputs claim
  module _ {K : Types} (app : Application K) (b : Both K) (claims : ℕ → ℕ → ℕ) (i : ℕ) where
    -- what is known of the spots of both
    pub record Pair (ys xs : List (Spot K)) : Type 0 where
      pub olds : (e : Spot K) → Among xs e → Known b.old b.old_child i e
      pub news : (e : Spot K) → Among ys e → Known b.new b.new_child i e
      pub fed : (q : Place) (c d : VComponent K) → Among ys (component_at q c) → Among xs (component_at q d) → is_same_component app d c ≡ true → Here (child_claims app b claims i (child_at b.old.children q)) (home q None)
      -- a child that isn't fed doesn't show what its successor shows
      pub clash :
          (q : Place) (c d : VComponent K) → Among ys (component_at q c) → Among xs (component_at q d) → is_same_component app d c ≡ false
          → 0 < count_of i (child_view b.old_child (child_at b.old.children q)) → 0 < count_of i (child_view b.new_child (child_at b.new.children q)) → ⊥

    pair_less : (ys xs us vs : List (Spot K)) → ((e : Spot K) → Among us e → Among ys e) → ((e : Spot K) → Among vs e → Among xs e) → Pair ys xs → Pair us vs
    pair_less ys xs us vs f g h =
        record {
          olds = λ e j. h.olds e (g e j);
          news = λ e j. h.news e (f e j);
          fed = λ q c d j k. h.fed q c d (f (component_at q c) j) (g (component_at q d) k);
          clash = λ q c d j k. h.clash q c d (f (component_at q c) j) (g (component_at q d) k);
        }

    rows_claimed : (whole : Template) (above : Place) (of : ℕ → Place → ℕ) (nodes : TemplateNodes) (up : List ℕ) (n : ℕ)
        → nodes_claims i b.old.numbers whole above of up n nodes ≡ rows_sum whole above (λ q k. counted (nat_eq (number_at b.old.numbers q k) i)) of up n nodes
    rows_claimed whole above of no_nodes up n = refl
    rows_claimed whole above of (element_node tag namespace attributes children rest) up n =
        let x = rows_claimed whole above of children (up ++ n ∷ []) 0 in let y = rows_claimed whole above of rest up (n + 1) in omega (arith, x, y)
    rows_claimed whole above of (text_node text rest) up n = let y = rows_claimed whole above of rest up (n + 1) in omega (arith, y)
    rows_claimed whole above of (slot_node k rest) up n = let y = rows_claimed whole above of rest up (n + 1) in omega (arith, y)

    -- a slot that gives way to another kind of slot
    way_here : (q : Place) (v u : Slot K) → (slot_tag v ≡ slot_tag u → ⊥) → Pair (slot_spots v q) (slot_spots u q) → Here (way_claims app b claims i q v u) (AtPlace (λ p. Begins q p))
    way_here q v u apart h =
        here_sum (count_of i (slot_view b.old b.old_child u q)) (count_of i (slot_view b.new b.new_child v q))
        (
        λ x y.
        let same = one x.0 y.0 x.1 y.1 x.2 y.2 in
        apart (slots_same (slot_tag v) (slot_tag u) q y.0 y.1 y.3 (subst (λ (k : Tag). OfSlot (slot_tag u) q y.0 k) same.1 (subst (λ (p : Place). OfSlot (slot_tag u) q p x.1) same.0 x.3)))
        )
        (λ x. (x.0, x.1, x.2, slot_begins (slot_tag u) q x.0 x.1 x.3)) (λ y. (y.0, y.1, y.2, slot_begins (slot_tag v) q y.0 y.1 y.3))
        (slot_counted b.old b.old_child i u q h.olds) (slot_counted b.new b.new_child i v q h.news)

    here_leaf : (q : Place) (k : Kind) → Here (counted (nat_eq (number_at b.old.numbers q k) i)) (home q (Some k)) → Here (counted (nat_eq (number_at b.old.numbers q k) i)) (AtPlace (λ p. Begins q p))
    here_leaf q k h = here_more (counted (nat_eq (number_at b.old.numbers q k) i)) (counted (nat_eq (number_at b.old.numbers q k) i)) refl (λ g. (q, Some k, g, begins_itself q q refl)) h

    child_here : (m : ℕ) (q : Place) → Here m (home q None) → Here m (AtPlace (λ p. Begins q p))
    child_here m q h = here_more m m refl (λ g. (q, None, g, begins_itself q q refl)) h

    component_here : (q : Place) (c d : VComponent K) (same : Bool) → is_same_component app d c ≡ same → Pair (slot_spots (component_slot c) q) (slot_spots (component_slot d) q)
        → Here (if same then child_claims app b claims i (child_at b.old.children q) else way_claims app b claims i q (component_slot c) (component_slot d)) (AtPlace (λ p. Begins q p))
    component_here q c d true e h = child_here (child_claims app b claims i (child_at b.old.children q)) q (h.fed q c d (inl refl) (inl refl) e)
    component_here q c d false e h =
        let old : ℕ = count_of i (child_view b.old_child (child_at b.old.children q)) in
        let new : ℕ = count_of i (child_view b.new_child (child_at b.new.children q)) in
        let x : Here old (home q None) = h.olds (component_at q d) (inl refl) in
        let y : Here new (home q None) = h.news (component_at q c) (inl refl) in
        here_sum {P = home q None × (0 < old)} {Q = home q None × (0 < new)} old new (λ f g. h.clash q c d (inl refl) (inl refl) e f.1 g.1) (λ f. (q, None, f.0, begins_itself q q refl)) (λ g. (q, None, g.0, begins_itself q q refl))
        (x.0, λ f. (x.1 f, f)) (y.0, λ g. (y.1 g, g))

    same_here : (above : Place) (template : Template) (given others : List (List (Attribute K))) (slots olds : Slots K) → Pair (spots above (block template given slots)) (spots above (block template others olds))
        → ((k : ℕ) (q : Place) → Pair (slots_spots slots k q) (slots_spots olds k q) → Here (slots_claims app b claims i slots olds k q) (AtPlace (λ p. Begins q p)))
        → Here (nodes_claims i b.old.numbers template above (λ k q. slots_claims app b claims i slots olds k q) [] 0 template.roots) (AtPlace (λ p. Begins above p))
    same_here above template given others slots olds h go =
        here_at (nodes_claims i b.old.numbers template above (λ k q. slots_claims app b claims i slots olds k q) [] 0 template.roots)
        (rows_sum template above (λ q k. counted (nat_eq (number_at b.old.numbers q k) i)) (λ k q. slots_claims app b claims i slots olds k q) [] 0 template.roots)
        (λ p. Row template above [] 0 p) (λ p. Begins above p)
        (rows_claimed template above (λ k q. slots_claims app b claims i slots olds k q) template.roots [] 0) (λ p s. in_begins template above p (row_in template above p s))
        (rows_pair template above (λ q k. counted (nat_eq (number_at b.old.numbers q k) i)) (λ k q. slots_claims app b claims i slots olds k q) (λ k q. slots_spots slots k q) (λ k q. slots_spots olds k q) (λ ys xs. Pair ys xs)
        pair_less (λ ys xs q k pair g. pair.olds (node_at q k) g) go template.roots [] 0 h)

    unlike_here : (above : Place) (y x : Tree K) → same_template (template_of y) (template_of x) ≡ false → Pair (spots above y) (spots above x)
        → Here (count_of i (tree_view b.old b.old_child above x) + count_of i (tree_view b.new b.new_child above y)) (AtPlace (λ p. Begins above p))
    unlike_here above y x differ h =
        here_two (count_of i (tree_view b.old b.old_child above x)) (count_of i (tree_view b.new b.new_child above y)) (λ p. InTree (template_of x) above p) (λ p. InTree (template_of y) above p) (λ p. Begins above p)
        (
        λ p s t.
        let steps = append_cancel_left above (inside (template_of x) s.0 ∷ s.1) (inside (template_of y) t.0 ∷ t.1) (sym s.2 ∙ t.2) in
        let same : template_of x ≡ template_of y = inside_template (template_of x) (template_of y) s.0 t.0 s.1 t.1 steps in
        let absurdity : true ≡ false = sym (template_same (template_of y)) ∙ ap (λ (u : Template). same_template (template_of y) u) (sym same) ∙ differ in
        cc
        )
        (λ p s. in_begins (template_of x) above p s) (λ p s. in_begins (template_of y) above p s) (tree_counted b.old b.old_child i above x h.olds) (tree_counted b.new b.new_child i above y h.news)

    tree_if : (above : Place) (template other : Template) (given others : List (List (Attribute K))) (slots olds : Slots K) (same : Bool) → same_template template other ≡ same → Pair (spots above (block template given slots)) (spots above (block other others olds))
        → ((k : ℕ) (q : Place) → Pair (slots_spots slots k q) (slots_spots olds k q) → Here (slots_claims app b claims i slots olds k q) (AtPlace (λ p. Begins q p)))
        → Here (if same then nodes_claims i b.old.numbers template above (λ k q. slots_claims app b claims i slots olds k q) [] 0 template.roots
        else count_of i (tree_view b.old b.old_child above (block other others olds)) + count_of i (tree_view b.new b.new_child above (block template given slots))) (AtPlace (λ p. Begins above p))
    tree_if above template other given others slots olds true e h go =
        same_here above template given others slots olds
        (subst (λ (t : Template). Pair (spots above (block template given slots)) (spots above (block t others olds))) (sym (template-true template other e)) h) go
    tree_if above template other given others slots olds false e h go = unlike_here above (block template given slots) (block other others olds) e h

    mutual
      pub tree_here : (above : Place) (y x : Tree K) → Pair (spots above y) (spots above x) → Here (tree_claims app b claims i above y x) (AtPlace (λ p. Begins above p))
      tree_here above (block template given slots) (block other others olds) h =
          tree_if above template other given others slots olds (same_template template other) refl h (λ k q pair. slots_here slots olds k q pair)

      slots_here : (ys xs : Slots K) (k : ℕ) (q : Place) → Pair (slots_spots ys k q) (slots_spots xs k q) → Here (slots_claims app b claims i ys xs k q) (AtPlace (λ p. Begins q p))
      slots_here no_slots xs k q h = here_none 0 refl
      slots_here (more_slots v rest) no_slots k q h = here_none 0 refl
      slots_here (more_slots v rest) (more_slots u others) zero q h = slot_here q v u h
      slots_here (more_slots v rest) (more_slots u others) (suc k) q h = slots_here rest others k q h

      slot_here : (q : Place) (v u : Slot K) → Pair (slot_spots v q) (slot_spots u q) → Here (slot_claims app b claims i q v u) (AtPlace (λ p. Begins q p))
      slot_here q (text_slot t) (text_slot u) h = here_leaf q a_text (h.olds (node_at q a_text) (inl refl))
      slot_here q placeholder_slot placeholder_slot h = here_leaf q a_placeholder (h.olds (node_at q a_placeholder) (inl refl))
      slot_here q (component_slot c) (component_slot d) h = component_here q c d (is_same_component app d c) refl h
      slot_here q (fragment_slot no_trees) (fragment_slot no_trees) h = here_leaf q an_empty_fragment (h.olds (node_at q an_empty_fragment) (inl refl))
      slot_here q (fragment_slot (more_trees y ys)) (fragment_slot (more_trees x xs)) h =
          here_at (items_claims app b claims i q 0 (more_trees y ys) (more_trees x xs)) (items_claims app b claims i q 0 (more_trees y ys) (more_trees x xs)) (λ p. FromItem q 0 p) (λ p. Begins q p) refl (λ p s. (item s.0 ∷ s.1, s.3))
          (items_here q 0 (more_trees y ys) (more_trees x xs) h)
      slot_here q (text_slot y) placeholder_slot h = way_here q (text_slot y) placeholder_slot (λ e. cc) h
      slot_here q (text_slot y) (component_slot x) h = way_here q (text_slot y) (component_slot x) (λ e. cc) h
      slot_here q (text_slot y) (fragment_slot no_trees) h = way_here q (text_slot y) (fragment_slot no_trees) (λ e. cc) h
      slot_here q (text_slot y) (fragment_slot (more_trees x xs)) h = way_here q (text_slot y) (fragment_slot (more_trees x xs)) (λ e. cc) h
      slot_here q placeholder_slot (text_slot x) h = way_here q placeholder_slot (text_slot x) (λ e. cc) h
      slot_here q placeholder_slot (component_slot x) h = way_here q placeholder_slot (component_slot x) (λ e. cc) h
      slot_here q placeholder_slot (fragment_slot no_trees) h = way_here q placeholder_slot (fragment_slot no_trees) (λ e. cc) h
      slot_here q placeholder_slot (fragment_slot (more_trees x xs)) h = way_here q placeholder_slot (fragment_slot (more_trees x xs)) (λ e. cc) h
      slot_here q (component_slot y) (text_slot x) h = way_here q (component_slot y) (text_slot x) (λ e. cc) h
      slot_here q (component_slot y) placeholder_slot h = way_here q (component_slot y) placeholder_slot (λ e. cc) h
      slot_here q (component_slot y) (fragment_slot no_trees) h = way_here q (component_slot y) (fragment_slot no_trees) (λ e. cc) h
      slot_here q (component_slot y) (fragment_slot (more_trees x xs)) h = way_here q (component_slot y) (fragment_slot (more_trees x xs)) (λ e. cc) h
      slot_here q (fragment_slot no_trees) (text_slot x) h = way_here q (fragment_slot no_trees) (text_slot x) (λ e. cc) h
      slot_here q (fragment_slot no_trees) placeholder_slot h = way_here q (fragment_slot no_trees) placeholder_slot (λ e. cc) h
      slot_here q (fragment_slot no_trees) (component_slot x) h = way_here q (fragment_slot no_trees) (component_slot x) (λ e. cc) h
      slot_here q (fragment_slot no_trees) (fragment_slot (more_trees x xs)) h = way_here q (fragment_slot no_trees) (fragment_slot (more_trees x xs)) (λ e. cc) h
      slot_here q (fragment_slot (more_trees y ys)) (text_slot x) h = way_here q (fragment_slot (more_trees y ys)) (text_slot x) (λ e. cc) h
      slot_here q (fragment_slot (more_trees y ys)) placeholder_slot h = way_here q (fragment_slot (more_trees y ys)) placeholder_slot (λ e. cc) h
      slot_here q (fragment_slot (more_trees y ys)) (component_slot x) h = way_here q (fragment_slot (more_trees y ys)) (component_slot x) (λ e. cc) h
      slot_here q (fragment_slot (more_trees y ys)) (fragment_slot no_trees) h = way_here q (fragment_slot (more_trees y ys)) (fragment_slot no_trees) (λ e. cc) h

      items_here : (q : Place) (n : ℕ) (ys xs : Trees K) → Pair (item_spots n q ys) (item_spots n q xs) → Here (items_claims app b claims i q n ys xs) (AtPlace (λ p. FromItem q n p))
      items_here q n no_trees xs h = items_counted b.old b.old_child i xs n q h.olds
      items_here q n (more_trees y ys) no_trees h = items_counted b.new b.new_child i (more_trees y ys) n q h.news
      items_here q n (more_trees y ys) (more_trees x xs) h =
          let us : List (Spot K) = spots (q ++ item n ∷ []) y in
          let vs : List (Spot K) = item_spots (n + 1) q ys in
          let ws : List (Spot K) = spots (q ++ item n ∷ []) x in
          let zs : List (Spot K) = item_spots (n + 1) q xs in
          here_two (tree_claims app b claims i (q ++ item n ∷ []) y x) (items_claims app b claims i q (n + 1) ys xs) (λ p. Begins (q ++ item n ∷ []) p) (λ p. FromItem q (n + 1) p) (λ p. FromItem q n p)
          (λ p s t. item_apart q n p s t) (λ p s. item_begins q n p s) (λ p t. item_later q n p t)
          (tree_here (q ++ item n ∷ []) y x (pair_less (us ++ vs) (ws ++ zs) us ws (λ e g. among_left us vs e g) (λ e g. among_left ws zs e g) h))
          (items_here q (n + 1) ys xs (pair_less (us ++ vs) (ws ++ zs) vs zs (λ e g. among_right us vs e g) (λ e g. among_right ws zs e g) h))
