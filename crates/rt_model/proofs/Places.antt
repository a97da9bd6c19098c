-- No two spots of a tree have one place.
use Rattle.std.proofs.Common.{ℕ, zero, suc, ◌+◌, ◌≤◌, List, [], ◌∷◌, ◌++◌, ◌≡◌, refl, sym, ap, ◌∙◌, arith, append_assoc, append-nil}
use Rattle.std.specs.Prelude.{All}
use Rattle.std.proofs.lemmas.List.{append_cancel_left}
use Rattle.std.proofs.lemmas.List.Elements.{All-nil, All-cons, All-head, All-append, All-weaker}
use Rattle.rt_model.specs.Tree.{Types, TemplateNodes, no_nodes, element_node, text_node, slot_node, Template, Tree, block, Slots, no_slots, more_slots, Slot, text_slot, placeholder_slot, component_slot, fragment_slot, Trees, no_trees, more_trees, inside, item, Place, an_element, a_static_text, a_text, a_placeholder, an_empty_fragment, Spot, node_at, component_at, place_in, node_spots, spots, slots_spots, slot_spots, item_spots}

module _ {K : Types} where
  -- the place of a spot
  abbrev pub place_of : Spot K → Place
  place_of (node_at p k) = p
  place_of (component_at p c) = p

  -- two spots have different places
  abbrev pub Apart : Spot K → Spot K → Type 0
  Apart e f = place_of e ≡ place_of f → ⊥

  -- no two spots of a list have one place
  abbrev pub Distinct : List (Spot K) → Type 0
  Distinct [] = Unit {0}
  Distinct (e ∷ es) = All (λ f. Apart e f) es × Distinct es

  distinct_join : (xs ys : List (Spot K)) → Distinct xs → Distinct ys → All (λ e. All (λ f. Apart e f) ys) xs → Distinct (xs ++ ys)
  distinct_join [] ys p q r = q
  distinct_join (x ∷ xs) ys p q r = (
    All-append (λ f. Apart x f) xs ys p.0 (All-head (λ e. All (λ f. Apart e f) ys) x xs r),
    distinct_join xs ys p.1 q (λ k d lt. r (suc k) d (omega arith)),
  )

  distinct_one : (e : Spot K) → Distinct (e ∷ [])
  distinct_one e = (All-nil (λ f. Apart e f), tt)

  -- the place goes on from this one
  abbrev Begins : Place → Spot K → Type 0
  Begins place e = (r : Place) × (place_of e ≡ place ++ r)

  begins_one : (place : Place) (e : Spot K) → place_of e ≡ place → All (λ f. Begins place f) (e ∷ [])
  begins_one place e h = All-cons (λ f. Begins place f) e [] ([], h ∙ sym (append-nil place)) (All-nil (λ f. Begins place f))

  -- the place is an item's of the fragment at this place, at this position or a later one
  abbrev FromItem : Place → ℕ → Spot K → Type 0
  FromItem place i e = (j : ℕ) × (r : Place) × (i ≤ j) × (place_of e ≡ place ++ item j ∷ r)

  apart_items : (place : Place) (i : ℕ) (e f : Spot K) → Begins (place ++ item i ∷ []) e → FromItem place (i + 1) f → Apart e f
  apart_items place i e f b s same =
      let below : i + 1 ≤ s.0 = s.2 in
      let tails : item i ∷ b.0 ≡ item s.0 ∷ s.1 =
      append_cancel_left place (item i ∷ b.0) (item s.0 ∷ s.1) (sym (append_assoc place (item i ∷ []) b.0) ∙ sym b.1 ∙ same ∙ s.3) in
      let positions : i ≡ s.0 = cc tails in
      omega arith

same_paths : (whole : Template) (above : Place) (up p q : List ℕ) (r s : Place) → above ++ inside whole (up ++ p) ∷ r ≡ above ++ inside whole (up ++ q) ∷ s → p ≡ q
same_paths whole above up p q r s h =
    let steps : inside whole (up ++ p) ∷ r ≡ inside whole (up ++ q) ∷ s = append_cancel_left above (inside whole (up ++ p) ∷ r) (inside whole (up ++ q) ∷ s) h in
    let paths : up ++ p ≡ up ++ q = cc steps in
    append_cancel_left up p q paths

module _ {K : Types} (whole : Template) (above : Place) where
  -- the place goes on from that of a node in the row of this path, at this position or a later one
  abbrev Stands : List ℕ → ℕ → Spot K → Type 0
  Stands up i e = (j : ℕ) × (path : List ℕ) × (r : Place) × (i ≤ j) × (place_of e ≡ above ++ inside whole (up ++ j ∷ path) ∷ r)

  abbrev Heads : List ℕ → ℕ → Spot K → Type 0
  Heads up i e = (path : List ℕ) × (r : Place) × (place_of e ≡ above ++ inside whole (up ++ i ∷ path) ∷ r)

  abbrev Deeper : List ℕ → ℕ → Spot K → Type 0
  Deeper up i e = (j : ℕ) × (path : List ℕ) × (r : Place) × (place_of e ≡ above ++ inside whole (up ++ i ∷ j ∷ path) ∷ r)

  deeper : (up : List ℕ) (i : ℕ) (e : Spot K) → Stands (up ++ i ∷ []) 0 e → Deeper up i e
  deeper up i e h = (h.0, h.1, h.2, h.4 ∙ ap (λ (p : List ℕ). above ++ inside whole p ∷ h.2) (append_assoc up (i ∷ []) (h.0 ∷ h.1)))

  within : (up : List ℕ) (i : ℕ) (e : Spot K) → Begins (place_in whole above up i) e → Heads up i e
  within up i e h = ([], h.0, h.1 ∙ append_assoc above (inside whole (up ++ i ∷ []) ∷ []) h.0)

  -- a later position
  apart_later : (up : List ℕ) (i : ℕ) (e f : Spot K) → Heads up i e → Stands up (i + 1) f → Apart e f
  apart_later up i e f h s same =
      let below : i + 1 ≤ s.0 = s.3 in
      let paths : i ∷ h.0 ≡ s.0 ∷ s.1 = same_paths whole above up (i ∷ h.0) (s.0 ∷ s.1) h.1 s.2 (sym h.2 ∙ same ∙ s.4) in
      let positions : i ≡ s.0 = cc paths in
      omega arith

  -- a node within
  apart_within : (up : List ℕ) (i : ℕ) (e f : Spot K) → place_of e ≡ place_in whole above up i → Deeper up i f → Apart e f
  apart_within up i e f h d same =
      let paths : i ∷ [] ≡ i ∷ d.0 ∷ d.1 = same_paths whole above up (i ∷ []) (i ∷ d.0 ∷ d.1) [] d.2 (sym h ∙ same ∙ d.3) in
      cc paths

  later_stands : (up : List ℕ) (i : ℕ) (es : List (Spot K)) → All (λ e. Stands up (i + 1) e) es → All (λ e. Stands up i e) es
  later_stands up i es h =
      All-weaker (λ e. Stands up (i + 1) e) (λ e. Stands up i e) (λ e s. let below : i + 1 ≤ s.0 = s.3 in (s.0, s.1, s.2, omega arith, s.4)) es h

  heads_stand : (up : List ℕ) (i : ℕ) (e : Spot K) → Heads up i e → Stands up i e
  heads_stand up i e h = (i, h.0, h.1, omega arith, h.2)

  all_apart_later : (up : List ℕ) (i : ℕ) (e : Spot K) (es : List (Spot K)) → Heads up i e → All (λ f. Stands up (i + 1) f) es → All (λ f. Apart e f) es
  all_apart_later up i e es h s = All-weaker (λ f. Stands up (i + 1) f) (λ f. Apart e f) (λ f z. apart_later up i e f h z) es s

module _ {K : Types} (whole : Template) (above : Place) (slot : ℕ → Place → List (Spot K)) (begins : (k : ℕ) (place : Place) → All (λ e. Begins place e) (slot k place)) where
  row_stands : (nodes : TemplateNodes) (up : List ℕ) (i : ℕ) → All (λ e. Stands whole above up i e) (node_spots whole above slot up i nodes)
  row_stands no_nodes up i = All-nil (λ e. Stands whole above up i e)
  row_stands (element_node tag namespace attributes children rest) up i =
      let xs : List (Spot K) = node_spots whole above slot (up ++ i ∷ []) 0 children in
      let ys : List (Spot K) = node_spots whole above slot up (i + 1) rest in
      All-cons (λ e. Stands whole above up i e) (node_at (place_in whole above up i) an_element) (xs ++ ys)
      (heads_stand {K = K} whole above up i (node_at (place_in whole above up i) an_element) ([], [], refl))
      (All-append (λ e. Stands whole above up i e) xs ys
      (
      All-weaker (λ e. Stands whole above (up ++ i ∷ []) 0 e) (λ e. Stands whole above up i e)
      (λ e s. let d : Deeper whole above up i e = deeper whole above up i e s in heads_stand whole above up i e (d.0 ∷ d.1, d.2, d.3))
      xs (row_stands children (up ++ i ∷ []) 0)
      )
      (later_stands whole above up i ys (row_stands rest up (i + 1))))
  row_stands (text_node text rest) up i =
      let ys : List (Spot K) = node_spots whole above slot up (i + 1) rest in
      All-cons (λ e. Stands whole above up i e) (node_at (place_in whole above up i) a_static_text) ys
      (heads_stand {K = K} whole above up i (node_at (place_in whole above up i) a_static_text) ([], [], refl))
      (later_stands whole above up i ys (row_stands rest up (i + 1)))
  row_stands (slot_node k rest) up i =
      let xs : List (Spot K) = slot k (place_in whole above up i) in
      let ys : List (Spot K) = node_spots whole above slot up (i + 1) rest in
      All-append (λ e. Stands whole above up i e) xs ys
      (All-weaker (λ e. Begins (place_in whole above up i) e) (λ e. Stands whole above up i e) (λ e b. heads_stand whole above up i e (within whole above up i e b)) xs (begins k (place_in whole above up i)))
      (later_stands whole above up i ys (row_stands rest up (i + 1)))

  row_begins : (nodes : TemplateNodes) → All (λ e. Begins above e) (node_spots whole above slot [] 0 nodes)
  row_begins nodes =
      All-weaker (λ e. Stands whole above [] 0 e) (λ e. Begins above e) (λ e s. (inside whole (s.0 ∷ s.1) ∷ s.2, s.4)) (node_spots whole above slot [] 0 nodes) (row_stands nodes [] 0)

  row_distinct : ((k : ℕ) (place : Place) → Distinct (slot k place)) → (nodes : TemplateNodes) (up : List ℕ) (i : ℕ) → Distinct (node_spots whole above slot up i nodes)
  row_distinct d no_nodes up i = tt
  row_distinct d (element_node tag namespace attributes children rest) up i =
      let own : Spot K = node_at (place_in whole above up i) an_element in
      let xs : List (Spot K) = node_spots whole above slot (up ++ i ∷ []) 0 children in
      let ys : List (Spot K) = node_spots whole above slot up (i + 1) rest in
      let sx : All (λ e. Stands whole above (up ++ i ∷ []) 0 e) xs = row_stands children (up ++ i ∷ []) 0 in
      let sy : All (λ e. Stands whole above up (i + 1) e) ys = row_stands rest up (i + 1) in (
        All-append (λ f. Apart own f) xs ys
            (All-weaker (λ f. Stands whole above (up ++ i ∷ []) 0 f) (λ f. Apart own f) (λ f s. apart_within whole above up i own f refl (deeper whole above up i f s)) xs sx)
            (all_apart_later whole above up i own ys ([], [], refl) sy),
        distinct_join xs ys (row_distinct d children (up ++ i ∷ []) 0) (row_distinct d rest up (i + 1))
            (
            All-weaker (λ e. Stands whole above (up ++ i ∷ []) 0 e) (λ e. All (λ f. Apart e f) ys)
            (λ e s. let z : Deeper whole above up i e = deeper whole above up i e s in all_apart_later whole above up i e ys (z.0 ∷ z.1, z.2, z.3) sy)
            xs sx
            ),
      )
  row_distinct d (text_node text rest) up i =
      let own : Spot K = node_at (place_in whole above up i) a_static_text in
      let ys : List (Spot K) = node_spots whole above slot up (i + 1) rest in
      (all_apart_later whole above up i own ys ([], [], refl) (row_stands rest up (i + 1)), row_distinct d rest up (i + 1))
  row_distinct d (slot_node k rest) up i =
      let xs : List (Spot K) = slot k (place_in whole above up i) in
      let ys : List (Spot K) = node_spots whole above slot up (i + 1) rest in
      distinct_join xs ys (d k (place_in whole above up i)) (row_distinct d rest up (i + 1))
      (All-weaker (λ e. Begins (place_in whole above up i) e) (λ e. All (λ f. Apart e f) ys)
      (λ e b. all_apart_later whole above up i e ys (within whole above up i e b) (row_stands rest up (i + 1)))
      xs (begins k (place_in whole above up i)))

module _ {K : Types} where
  later_items : (place : Place) (i : ℕ) (es : List (Spot K)) → All (λ e. FromItem place (i + 1) e) es → All (λ e. FromItem place i e) es
  later_items place i es h =
      All-weaker (λ e. FromItem place (i + 1) e) (λ e. FromItem place i e) (λ e s. let below : i + 1 ≤ s.0 = s.2 in (s.0, s.1, omega arith, s.3)) es h

  item_begins : (place : Place) (i : ℕ) (e : Spot K) → Begins (place ++ item i ∷ []) e → FromItem place i e
  item_begins place i e b = (i, b.0, omega arith, b.1 ∙ append_assoc place (item i ∷ []) b.0)

  mutual
    -- places in a tree go on from the tree's own
    tree_begins : (above : Place) (x : Tree K) → All (λ e. Begins above e) (spots above x)
    tree_begins above (block template attributes slots) = row_begins template above (λ k place. slots_spots slots k place) (λ k place. slots_begin slots k place) template.roots

    slots_begin : (slots : Slots K) (k : ℕ) (place : Place) → All (λ e. Begins place e) (slots_spots slots k place)
    slots_begin no_slots k place = All-nil (λ e. Begins place e)
    slots_begin (more_slots v rest) zero place = slot_begins v place
    slots_begin (more_slots v rest) (suc k) place = slots_begin rest k place

    slot_begins : (v : Slot K) (place : Place) → All (λ e. Begins place e) (slot_spots v place)
    slot_begins (text_slot text) place = begins_one place (node_at place a_text) refl
    slot_begins placeholder_slot place = begins_one place (node_at place a_placeholder) refl
    slot_begins (component_slot c) place = begins_one place (component_at place c) refl
    slot_begins (fragment_slot no_trees) place = begins_one place (node_at place an_empty_fragment) refl
    slot_begins (fragment_slot (more_trees t ts)) place =
        All-weaker (λ e. FromItem place 0 e) (λ e. Begins place e) (λ e s. (item s.0 ∷ s.1, s.3)) (item_spots 0 place (more_trees t ts)) (items_begin 0 place (more_trees t ts))

    items_begin : (i : ℕ) (place : Place) (ts : Trees K) → All (λ e. FromItem place i e) (item_spots i place ts)
    items_begin i place no_trees = All-nil (λ e. FromItem place i e)
    items_begin i place (more_trees t ts) =
        All-append (λ e. FromItem place i e) (spots (place ++ item i ∷ []) t) (item_spots (i + 1) place ts)
        (All-weaker (λ e. Begins (place ++ item i ∷ []) e) (λ e. FromItem place i e) (λ e b. item_begins place i e b) (spots (place ++ item i ∷ []) t) (tree_begins (place ++ item i ∷ []) t))
        (later_items place i (item_spots (i + 1) place ts) (items_begin (i + 1) place ts))

  mutual
    -- no two spots of a tree have one place
    pub spots_distinct : (above : Place) (x : Tree K) → Distinct (spots above x)
    spots_distinct above (block template attributes slots) =
        row_distinct template above (λ k place. slots_spots slots k place) (λ k place. slots_begin slots k place) (λ k place. slots_distinct slots k place) template.roots [] 0

    slots_distinct : (slots : Slots K) (k : ℕ) (place : Place) → Distinct (slots_spots slots k place)
    slots_distinct no_slots k place = tt
    slots_distinct (more_slots v rest) zero place = slot_distinct v place
    slots_distinct (more_slots v rest) (suc k) place = slots_distinct rest k place

    slot_distinct : (v : Slot K) (place : Place) → Distinct (slot_spots v place)
    slot_distinct (text_slot text) place = distinct_one (node_at place a_text)
    slot_distinct placeholder_slot place = distinct_one (node_at place a_placeholder)
    slot_distinct (component_slot c) place = distinct_one (component_at place c)
    slot_distinct (fragment_slot no_trees) place = distinct_one (node_at place an_empty_fragment)
    slot_distinct (fragment_slot (more_trees t ts)) place = items_distinct 0 place (more_trees t ts)

    items_distinct : (i : ℕ) (place : Place) (ts : Trees K) → Distinct (item_spots i place ts)
    items_distinct i place no_trees = tt
    items_distinct i place (more_trees t ts) =
        distinct_join (spots (place ++ item i ∷ []) t) (item_spots (i + 1) place ts) (spots_distinct (place ++ item i ∷ []) t) (items_distinct (i + 1) place ts)
        (All-weaker (λ e. Begins (place ++ item i ∷ []) e) (λ e. All (λ f. Apart e f) (item_spots (i + 1) place ts))
        (
        λ e b. All-weaker (λ f. FromItem place (i + 1) f) (λ f. Apart e f) (λ f s. apart_items place i e f b s) (item_spots (i + 1) place ts) (items_begin (i + 1) place ts)
        )
        (spots (place ++ item i ∷ []) t) (tree_begins (place ++ item i ∷ []) t))
