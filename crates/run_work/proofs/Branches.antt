-- Places that go out from one place: a row of a template's nodes, and a fragment's items.
use Rattle.std.proofs.Common.{ℕ, zero, suc, ◌+◌, ◌≤◌, List, [], ◌∷◌, ◌++◌, ◌≡◌, ◌⊎◌, inl, inr, refl, sym, ap, ◌∙◌, subst, arith, append_assoc, append-nil}
use Rattle.std.proofs.lemmas.List.{append_cancel_left}
use Rattle.rt_model.specs.Tree.{Types, TemplateNodes, no_nodes, element_node, text_node, slot_node, Template, Tree, block, Slots, no_slots, more_slots, Slot, text_slot, placeholder_slot, component_slot, fragment_slot, Trees, no_trees, more_trees, inside, item, Place, Kind, an_element, a_static_text, a_text, a_placeholder, an_empty_fragment, Spot, node_at, component_at, place_in, spots, slots_spots, slot_spots, item_spots}
use Rattle.rt_model.proofs.Among.{Among}
use Rattle.rt_model.proofs.Places.{place_of}
use Rattle.run_work.specs.Events.{walk}
use Rattle.run_work.proofs.Flats.{spots-walk}

module _ {A : Type 0} where
  -- all of a list are so
  abbrev pub AllIn : (A → Type 0) → List A → Type 0
  AllIn P xs = (x : A) → Among xs x → P x

  -- what is among one of two lists
  pub among_either : (xs ys : List A) (x : A) → Among (xs ++ ys) x → Among xs x ⊎ Among ys x
  among_either [] ys x h = inr h
  among_either (z ∷ xs) ys x (inl h) = inl (inl h)
  among_either (z ∷ xs) ys x (inr h) = elim (among_either xs ys x h) [ inl g ↦ inl (inr g) | inr g ↦ inr g ]

  -- one item
  pub all-one : (P : A → Type 0) (x : A) → P x → AllIn P (x ∷ [])
  all-one P x p = λ y h. elim h [ inl g ↦ subst P g p | inr g ↦ absurd g ]

  -- two lists
  pub all-append : (P : A → Type 0) (xs ys : List A) → AllIn P xs → AllIn P ys → AllIn P (xs ++ ys)
  all-append P xs ys p q = λ x h. elim (among_either xs ys x h) [ inl g ↦ p x g | inr g ↦ q x g ]

  -- the place is this one, or goes on from it
  abbrev pub Begins : (A → Place) → Place → A → Type 0
  Begins at place x = (r : Place) × (at x ≡ place ++ r)

  -- the place is an item's of the fragment at this place, at this position or a later one
  abbrev pub FromItem : (A → Place) → Place → ℕ → A → Type 0
  FromItem at place i x = (j : ℕ) × (r : Place) × (i ≤ j) × (at x ≡ place ++ item j ∷ r)

  -- the place goes on from that of a node in the row of this path, at this position or a later one
  abbrev pub Stands : (A → Place) → Template → Place → List ℕ → ℕ → A → Type 0
  Stands at whole above up i x = (j : ℕ) × (path : List ℕ) × (r : Place) × (i ≤ j) × (at x ≡ above ++ inside whole (up ++ j ∷ path) ∷ r)

  -- the same at this very position
  abbrev pub Heads : (A → Place) → Template → Place → List ℕ → ℕ → A → Type 0
  Heads at whole above up i x = (path : List ℕ) × (r : Place) × (at x ≡ above ++ inside whole (up ++ i ∷ path) ∷ r)

  -- what begins at the place of a node heads there
  pub heads-of_begins : (at : A → Place) (whole : Template) (above : Place) (up : List ℕ) (i : ℕ) (x : A) → Begins at (place_in whole above up i) x → Heads at whole above up i x
  heads-of_begins at whole above up i x h = ([], h.0, h.1 ∙ append_assoc above (inside whole (up ++ i ∷ []) ∷ []) h.0)

  -- and so does what stands in the row below it
  pub heads-of_deeper : (at : A → Place) (whole : Template) (above : Place) (up : List ℕ) (i : ℕ) (x : A) → Stands at whole above (up ++ i ∷ []) 0 x → Heads at whole above up i x
  heads-of_deeper at whole above up i x h = (h.0 ∷ h.1, h.2, h.4 ∙ ap (λ (p : List ℕ). above ++ inside whole p ∷ h.2) (append_assoc up (i ∷ []) (h.0 ∷ h.1)))

  -- what heads at a position stands from there on
  pub stands-of_heads : (at : A → Place) (whole : Template) (above : Place) (up : List ℕ) (i : ℕ) (x : A) → Heads at whole above up i x → Stands at whole above up i x
  stands-of_heads at whole above up i x h = (i, h.0, h.1, omega arith, h.2)

  stands-of_later : (at : A → Place) (whole : Template) (above : Place) (up : List ℕ) (i : ℕ) (x : A) → Stands at whole above up (i + 1) x → Stands at whole above up i x
  stands-of_later at whole above up i x s = let below : i + 1 ≤ s.0 = s.3 in (s.0, s.1, s.2, omega arith, s.4)

  -- what stands in a template begins at its place
  pub begins-of_stands : (at : A → Place) (whole : Template) (above : Place) (up : List ℕ) (i : ℕ) (x : A) → Stands at whole above up i x → Begins at above x
  begins-of_stands at whole above up i x s = (inside whole (up ++ s.0 ∷ s.1) ∷ s.2, s.4)

  -- what begins at an item's place is from that item on
  pub from-of_begins : (at : A → Place) (place : Place) (i : ℕ) (x : A) → Begins at (place ++ item i ∷ []) x → FromItem at place i x
  from-of_begins at place i x b = (i, b.0, omega arith, b.1 ∙ append_assoc place (item i ∷ []) b.0)

  -- what is from a later item on
  pub from-of_later : (at : A → Place) (place : Place) (i : ℕ) (x : A) → FromItem at place (i + 1) x → FromItem at place i x
  from-of_later at place i x s = let below : i + 1 ≤ s.0 = s.2 in (s.0, s.1, omega arith, s.3)

  -- what is from an item on begins at the fragment's place
  pub begins-of_from : (at : A → Place) (place : Place) (i : ℕ) (x : A) → FromItem at place i x → Begins at place x
  begins-of_from at place i x s = (item s.0 ∷ s.1, s.3)

  -- different positions in one row
  pub apart_later : (at : A → Place) (whole : Template) (above : Place) (up : List ℕ) (i : ℕ) (x y : A) → Heads at whole above up i x → Stands at whole above up (i + 1) y → at x ≡ at y → ⊥
  apart_later at whole above up i x y h s same =
      let below : i + 1 ≤ s.0 = s.3 in
      let steps : inside whole (up ++ i ∷ h.0) ∷ h.1 ≡ inside whole (up ++ s.0 ∷ s.1) ∷ s.2 =
      append_cancel_left above (inside whole (up ++ i ∷ h.0) ∷ h.1) (inside whole (up ++ s.0 ∷ s.1) ∷ s.2) (sym h.2 ∙ same ∙ s.4) in
      let paths : up ++ i ∷ h.0 ≡ up ++ s.0 ∷ s.1 = cc steps in
      let tails : i ∷ h.0 ≡ s.0 ∷ s.1 = append_cancel_left up (i ∷ h.0) (s.0 ∷ s.1) paths in
      let positions : i ≡ s.0 = cc tails in
      omega arith

  -- different templates at one place
  pub apart_templates : (at : A → Place) (t u : Template) (above : Place) (x y : A) → (t ≡ u → ⊥) → Stands at t above [] 0 x → Stands at u above [] 0 y → at x ≡ at y → ⊥
  apart_templates at t u above x y differ h s same =
      let steps : inside t (h.0 ∷ h.1) ∷ h.2 ≡ inside u (s.0 ∷ s.1) ∷ s.2 =
      append_cancel_left above (inside t (h.0 ∷ h.1) ∷ h.2) (inside u (s.0 ∷ s.1) ∷ s.2) (sym h.4 ∙ same ∙ s.4) in
      let templates : t ≡ u = cc steps in
      differ templates

  -- different items of one fragment
  pub apart_items : (at : A → Place) (place : Place) (i : ℕ) (x y : A) → Begins at (place ++ item i ∷ []) x → FromItem at place (i + 1) y → at x ≡ at y → ⊥
  apart_items at place i x y b s same =
      let below : i + 1 ≤ s.0 = s.2 in
      let tails : item i ∷ b.0 ≡ item s.0 ∷ s.1 =
      append_cancel_left place (item i ∷ b.0) (item s.0 ∷ s.1) (sym (append_assoc place (item i ∷ []) b.0) ∙ sym b.1 ∙ same ∙ s.3) in
      let positions : i ≡ s.0 = cc tails in
      omega arith

  -- an item's place isn't the fragment's own
  pub apart_own : (at : A → Place) (place : Place) (i : ℕ) (y : A) → FromItem at place i y → place ≡ at y → ⊥
  apart_own at place i y s same =
      let tails : [] ≡ item s.0 ∷ s.1 = append_cancel_left place [] (item s.0 ∷ s.1) (append-nil place ∙ same ∙ s.3) in
      cc tails

module _ {A : Type 0} (at : A → Place) (node : Place → Kind → List A) (owns : (p : Place) (k : Kind) → AllIn (Begins at p) (node p k)) (whole : Template) (above : Place) (slot : ℕ → Place → List A) (begins : (k : ℕ) (place : Place) → AllIn (Begins at place) (slot k place)) where
  -- what a walk gives stands in its row
  pub walk-stands : (nodes : TemplateNodes) (up : List ℕ) (i : ℕ) → AllIn (Stands at whole above up i) (walk node whole above slot up i nodes)
  walk-stands no_nodes up i = λ x h. absurd h
  walk-stands (element_node tag namespace attributes children rest) up i =
      all-append (Stands at whole above up i) (node (place_in whole above up i) an_element) (walk node whole above slot (up ++ i ∷ []) 0 children ++ walk node whole above slot up (i + 1) rest)
      (λ x h. stands-of_heads at whole above up i x (heads-of_begins at whole above up i x (owns (place_in whole above up i) an_element x h)))
      (all-append (Stands at whole above up i) (walk node whole above slot (up ++ i ∷ []) 0 children) (walk node whole above slot up (i + 1) rest)
      (λ x h. stands-of_heads at whole above up i x (heads-of_deeper at whole above up i x (walk-stands children (up ++ i ∷ []) 0 x h)))
      (λ x h. stands-of_later at whole above up i x (walk-stands rest up (i + 1) x h)))
  walk-stands (text_node text rest) up i =
      all-append (Stands at whole above up i) (node (place_in whole above up i) a_static_text) (walk node whole above slot up (i + 1) rest)
      (λ x h. stands-of_heads at whole above up i x (heads-of_begins at whole above up i x (owns (place_in whole above up i) a_static_text x h)))
      (λ x h. stands-of_later at whole above up i x (walk-stands rest up (i + 1) x h))
  walk-stands (slot_node k rest) up i =
      all-append (Stands at whole above up i) (slot k (place_in whole above up i)) (walk node whole above slot up (i + 1) rest)
      (λ x h. stands-of_heads at whole above up i x (heads-of_begins at whole above up i x (begins k (place_in whole above up i) x h)))
      (λ x h. stands-of_later at whole above up i x (walk-stands rest up (i + 1) x h))

module _ {K : Types} where
  begins_one : (place : Place) (e : Spot K) → place_of e ≡ place → AllIn (Begins place_of place) (e ∷ [])
  begins_one place e h = all-one (Begins place_of place) e ([], h ∙ sym (append-nil place))

  mutual
    -- the spots of a tree stand below the steps of its template
    pub spots-stand : (x : Tree K) (above : Place) → (t : Template) → (t ≡ (elim x as (λ z. Template) [ block template attributes slots ↦ template ])) → AllIn (Stands place_of t above [] 0) (spots above x)
    spots-stand (block template attributes slots) above t is = λ e h.
        subst (λ (z : Template). Stands place_of z above [] 0 e) (sym is)
        (walk-stands place_of (λ p k. node_at p k ∷ []) (λ p k. begins_one p (node_at p k) refl) template above (λ k place. slots_spots slots k place) (λ k place. slots-begin slots k place) template.roots [] 0 e
        (subst (λ (zs : List (Spot K)). Among zs e) (spots-walk template above (λ k place. slots_spots slots k place) [] 0 template.roots) h))

    -- those of a slot with a number begin at its place
    pub slots-begin : (slots : Slots K) (k : ℕ) (place : Place) → AllIn (Begins place_of place) (slots_spots slots k place)
    slots-begin no_slots k place = λ e h. absurd h
    slots-begin (more_slots v rest) zero place = slot-begins v place
    slots-begin (more_slots v rest) (suc k) place = slots-begin rest k place

    -- and those of what stands in it
    pub slot-begins : (v : Slot K) (place : Place) → AllIn (Begins place_of place) (slot_spots v place)
    slot-begins (text_slot text) place = begins_one place (node_at place a_text) refl
    slot-begins placeholder_slot place = begins_one place (node_at place a_placeholder) refl
    slot-begins (component_slot c) place = begins_one place (component_at place c) refl
    slot-begins (fragment_slot no_trees) place = begins_one place (node_at place an_empty_fragment) refl
    slot-begins (fragment_slot (more_trees t ts)) place = λ e h. begins-of_from place_of place 0 e (items-from 0 place (more_trees t ts) e h)

    -- those of items are from the first of them on
    pub items-from : (i : ℕ) (place : Place) (ts : Trees K) → AllIn (FromItem place_of place i) (item_spots i place ts)
    items-from i place no_trees = λ e h. absurd h
    items-from i place (more_trees (block template attributes slots) ts) =
        all-append (FromItem place_of place i) (spots (place ++ item i ∷ []) (block template attributes slots)) (item_spots (i + 1) place ts)
        (λ e h. from-of_begins place_of place i e (begins-of_stands place_of template (place ++ item i ∷ []) [] 0 e (spots-stand (block template attributes slots) (place ++ item i ∷ []) template refl e h)))
        (λ e h. from-of_later place_of place i e (items-from (i + 1) place ts e h))
