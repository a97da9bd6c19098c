-- No place that goes is one that comes as the same kind, no component that is left is like the one that is made in its place, and one that is fed is like the old one.
use Rattle.std.proofs.Common.{ℕ, zero, suc, ◌+◌, Bool, true, false, List, [], ◌∷◌, ◌++◌, ◌≡◌, inl, inr, ◌≤◌, map, refl, sym, ap, ◌∙◌, subst, append-nil}
use Rattle.rt_model.specs.Tree.{Types, TemplateNodes, no_nodes, element_node, text_node, slot_node, Template, same_template, Tree, block, Slots, no_slots, more_slots, Slot, text_slot, placeholder_slot, component_slot, fragment_slot, Trees, no_trees, more_trees, VComponent, item, Place, Kind, an_element, a_static_text, a_text, a_placeholder, an_empty_fragment, Spot, node_at, component_at, place_in, spots, slots_spots, item_spots}
use Rattle.rt_model.proofs.Maps.{by_test, pick_true, pick_false}
use Rattle.rt_model.proofs.Among.{Among, among_left, among_right}
use Rattle.rt_model.proofs.Places.{place_of}
pub use Rattle.rt_model.proofs.Among.{template_same as template-same}
use Rattle.run_work.specs.Events.{Event, stays, goes, comes, fed, left, made, walk, gone, come, changed, pairing, both_slots, pair_slots, pair_items}
use Rattle.run_work.proofs.Flats.{flat, old_in, new_in}
use Rattle.run_work.proofs.EventSpots.{both-old, both-new, pairing-old, pairing-new, items-old, items-new, template-true}
use Rattle.run_work.proofs.Branches.{AllIn, among_either, all-one, Begins, FromItem, Stands, heads-of_begins, heads-of_deeper, begins-of_stands, apart_later, apart_templates, apart_items, apart_own, walk-stands, spots-stand, slots-begin, items-from}

module _ {K : Types} where
  -- where an event is
  abbrev pub event_place : Event K → Place
  event_place (stays p k) = p
  event_place (goes p k) = p
  event_place (comes p k) = p
  event_place (fed p c d) = p
  event_place (left p c) = p
  event_place (made p d) = p

  gone-place : (s : Spot K) → event_place (gone s) ≡ place_of s
  gone-place (node_at p k) = refl
  gone-place (component_at p c) = refl

  come-place : (s : Spot K) → event_place (come s) ≡ place_of s
  come-place (node_at p k) = refl
  come-place (component_at p c) = refl

  -- what comes of an event is among what comes of all
  pub among-flat : {B : Type 0} (f : Event K → List B) (es : List (Event K)) (e : Event K) (y : B) → Among es e → Among (f e) y → Among (flat f es) y
  among-flat f [] e y h g = absurd h
  among-flat f (x ∷ es) e y (inl h) g = among_left (f x) (flat f es) y (subst (λ (z : Event K). Among (f z) y) (sym h) g)
  among-flat f (x ∷ es) e y (inr h) g = among_right (f x) (flat f es) y (among-flat f es e y h g)

  -- what all old spots and all new ones are, all events are
  pub events-are : (P : Place → Type 0) (es : List (Event K)) → AllIn (λ s. P (place_of s)) (flat old_in es) → AllIn (λ s. P (place_of s)) (flat new_in es) → AllIn (λ e. P (event_place e)) es
  events-are P es f g (stays p k) h = f (node_at p k) (among-flat old_in es (stays p k) (node_at p k) h (inl refl))
  events-are P es f g (goes p k) h = f (node_at p k) (among-flat old_in es (goes p k) (node_at p k) h (inl refl))
  events-are P es f g (comes p k) h = g (node_at p k) (among-flat new_in es (comes p k) (node_at p k) h (inl refl))
  events-are P es f g (fed p c d) h = f (component_at p c) (among-flat old_in es (fed p c d) (component_at p c) h (inl refl))
  events-are P es f g (left p c) h = f (component_at p c) (among-flat old_in es (left p c) (component_at p c) h (inl refl))
  events-are P es f g (made p d) h = g (component_at p d) (among-flat new_in es (made p d) (component_at p d) h (inl refl))

  -- what all of a list are, all of an equal one are
  pub all-same : (P : Spot K → Type 0) (xs ys : List (Spot K)) → xs ≡ ys → AllIn P ys → AllIn P xs
  all-same P xs ys is h = λ s g. h s (subst (λ (zs : List (Spot K)). Among zs s) is g)

  module _ (alike : VComponent K → VComponent K → Bool) where
    -- the two don't match
    abbrev pub Compatible : Event K → Event K → Type 0
    Compatible (goes p k) (comes q l) = p ≡ q → k ≡ l → ⊥
    Compatible (left p c) (made q d) = p ≡ q → alike c d ≡ false
    Compatible (fed p c d) (fed q a b) = p ≡ q → alike c d ≡ true
    Compatible _ _ = Unit {0}

    -- no two of these do
    abbrev pub IsMatched : List (Event K) → Type 0
    IsMatched es = (e f : Event K) → Among es e → Among es f → Compatible e f

    -- nor do events at different places
    pub apart-compatible : (e f : Event K) → (event_place e ≡ event_place f → ⊥) → Compatible e f
    apart-compatible (goes p k) (comes q l) h = λ s t. h s
    apart-compatible (left p c) (made q d) h = λ s. absurd (h s)
    apart-compatible (fed p c d) (fed q a b) h = λ s. absurd (h s)
    apart-compatible _ _ h = tt

    join-matched : (xs ys : List (Event K)) → IsMatched xs → IsMatched ys → ((e f : Event K) → Among xs e → Among ys f → event_place e ≡ event_place f → ⊥) → IsMatched (xs ++ ys)
    join-matched xs ys m n h = λ e f g k.
        elim (among_either xs ys e g) [
          | inl a ↦ elim (among_either xs ys f k) [ inl b ↦ m e f a b | inr b ↦ apart-compatible e f (h e f a b) ]
          | inr a ↦ elim (among_either xs ys f k) [ inl b ↦ apart-compatible e f (λ same. h f e b a (sym same)) | inr b ↦ n e f a b ]
        ]

    stays-left : (p : Place) (k : Kind) (f : Event K) → Compatible (stays p k) f
    stays-left p k f = tt

    stays-right : (p : Place) (k : Kind) (e : Event K) → Compatible e (stays p k)
    stays-right p k (goes q l) = tt
    stays-right p k (left q c) = tt
    stays-right p k (fed q c d) = tt
    stays-right p k _ = tt

    none-matched : IsMatched []
    none-matched e f h g = absurd h

    one-matched : (x : Event K) → Compatible x x → IsMatched (x ∷ [])
    one-matched x c e f (inl s) (inl t) = subst (λ (z : Event K). Compatible z f) s (subst (λ (z : Event K). Compatible x z) t c)
    one-matched x c e f (inl s) (inr t) = absurd t
    one-matched x c e f (inr s) t = absurd s

    stays-matched : (p : Place) (k : Kind) (es : List (Event K)) → IsMatched es → IsMatched (stays p k ∷ es)
    stays-matched p k es m e f (inl s) g = subst (λ (z : Event K). Compatible z f) s (stays-left p k f)
    stays-matched p k es m e f (inr s) (inl t) = subst (λ (z : Event K). Compatible e z) t (stays-right p k e)
    stays-matched p k es m e f (inr s) (inr t) = m e f s t

    -- an event of spots that go, and of spots that come
    from_gone : (ss : List (Spot K)) (e : Event K) → Among (map gone ss) e → (s : Spot K) × Among ss s × (gone s ≡ e)
    from_gone [] e h = absurd h
    from_gone (s ∷ ss) e (inl h) = (s, inl refl, h)
    from_gone (s ∷ ss) e (inr h) = let found = from_gone ss e h in (found.0, inr found.1, found.2)

    from_come : (ss : List (Spot K)) (e : Event K) → Among (map come ss) e → (s : Spot K) × Among ss s × (come s ≡ e)
    from_come [] e h = absurd h
    from_come (s ∷ ss) e (inl h) = (s, inl refl, h)
    from_come (s ∷ ss) e (inr h) = let found = from_come ss e h in (found.0, inr found.1, found.2)

    two-gone : (s r : Spot K) → Compatible (gone s) (gone r)
    two-gone (node_at p k) (node_at q l) = tt
    two-gone (node_at p k) (component_at q d) = tt
    two-gone (component_at p c) (node_at q l) = tt
    two-gone (component_at p c) (component_at q d) = tt

    come-left : (s : Spot K) (f : Event K) → Compatible (come s) f
    come-left (node_at p k) f = tt
    come-left (component_at p c) f = tt

    -- spots that go
    pub gone-matched : (ss : List (Spot K)) → IsMatched (map gone ss)
    gone-matched ss = λ e f h g.
        let x = from_gone ss e h in
        let y = from_gone ss f g in
        subst (λ (z : Event K). Compatible z f) x.2 (subst (λ (z : Event K). Compatible (gone x.0) z) y.2 (two-gone x.0 y.0))

    -- spots that come
    pub come-matched : (ss : List (Spot K)) → IsMatched (map come ss)
    come-matched ss = λ e f h g.
        let x = from_come ss e h in
        subst (λ (z : Event K). Compatible z f) x.2 (come-left x.0 f)

    -- spots that go and spots that come, where no two of them match
    pub changed-matched : (olds news : List (Spot K)) → ((s r : Spot K) → Among olds s → Among news r → Compatible (gone s) (come r)) → IsMatched (changed olds news)
    changed-matched olds news each = λ e f h g.
        elim (among_either (map gone olds) (map come news) e h) [
          | inr a ↦ let x = from_come news e a in subst (λ (z : Event K). Compatible z f) x.2 (come-left x.0 f)
          | inl a ↦
              elim (among_either (map gone olds) (map come news) f g) [
                | inl b ↦ gone-matched olds e f a b
                | inr b ↦
                    let x = from_gone olds e a in
                    let y = from_come news f b in
                    subst (λ (z : Event K). Compatible z f) x.2 (subst (λ (z : Event K). Compatible (gone x.0) z) y.2 (each x.0 y.0 x.1 y.1))
              ]
        ]

    -- spots of different places
    pub apart-spots : (s r : Spot K) → (place_of s ≡ place_of r → ⊥) → Compatible (gone s) (come r)
    apart-spots (node_at p k) (node_at q l) h = λ same kinds. h same
    apart-spots (node_at p k) (component_at q d) h = tt
    apart-spots (component_at p c) (node_at q l) h = tt
    apart-spots (component_at p c) (component_at q d) h = λ same. absurd (h same)

    single-matched : (s r : Spot K) → Compatible (gone s) (come r) → IsMatched (changed (s ∷ []) (r ∷ []))
    single-matched s r c = changed-matched (s ∷ []) (r ∷ []) (λ x y h g.
        elim h [
          | inl a ↦ elim g [ inl b ↦ subst (λ (z : Spot K). Compatible (gone z) (come y)) a (subst (λ (z : Spot K). Compatible (gone s) (come z)) b c) | inr b ↦ absurd b ]
          | inr a ↦ absurd a
        ])

    deep-right : (s : Spot K) (place : Place) (us : Trees K) → place_of s ≡ place → IsMatched (changed (s ∷ []) (item_spots 0 place us))
    deep-right s place us is = changed-matched (s ∷ []) (item_spots 0 place us) (λ x y h g.
        elim h [
          | inl a ↦ apart-spots x y (λ same. apart_own place_of place 0 y (items-from 0 place us y g) (sym is ∙ ap place_of a ∙ same))
          | inr a ↦ absurd a
        ])

    deep-left : (s : Spot K) (place : Place) (ts : Trees K) → place_of s ≡ place → IsMatched (changed (item_spots 0 place ts) (s ∷ []))
    deep-left s place ts is = changed-matched (item_spots 0 place ts) (s ∷ []) (λ x y h g.
        elim g [
          | inl a ↦ apart-spots x y (λ same. apart_own place_of place 0 x (items-from 0 place ts x h) (sym is ∙ ap place_of a ∙ sym same))
          | inr a ↦ absurd a
        ])

    stays-begin : (p : Place) (k : Kind) → AllIn (Begins event_place p) (stays p k ∷ [])
    stays-begin p k = all-one (Begins event_place p) (stays p k) ([], sym (append-nil p))

    module _ (whole : Template) (above : Place) (slot : ℕ → Place → List (Event K)) (begins : (k : ℕ) (place : Place) → AllIn (Begins event_place place) (slot k place)) (matched : (k : ℕ) (place : Place) → IsMatched (slot k place)) where
      abbrev row : List ℕ → ℕ → TemplateNodes → List (Event K)
      row up i nodes = walk (λ p k. stays p k ∷ []) whole above slot up i nodes

      row-stands : (nodes : TemplateNodes) (up : List ℕ) (i : ℕ) → AllIn (Stands event_place whole above up i) (row up i nodes)
      row-stands nodes up i = walk-stands event_place (λ p k. stays p k ∷ []) stays-begin whole above slot begins nodes up i

      walk-matched : (nodes : TemplateNodes) (up : List ℕ) (i : ℕ) → IsMatched (row up i nodes)
      walk-matched no_nodes up i = none-matched
      walk-matched (element_node tag namespace attributes children rest) up i =
          stays-matched (place_in whole above up i) an_element (row (up ++ i ∷ []) 0 children ++ row up (i + 1) rest)
          (join-matched (row (up ++ i ∷ []) 0 children) (row up (i + 1) rest) (walk-matched children (up ++ i ∷ []) 0) (walk-matched rest up (i + 1))
          (λ e f h g. apart_later event_place whole above up i e f (heads-of_deeper event_place whole above up i e (row-stands children (up ++ i ∷ []) 0 e h)) (row-stands rest up (i + 1) f g)))
      walk-matched (text_node text rest) up i = stays-matched (place_in whole above up i) a_static_text (row up (i + 1) rest) (walk-matched rest up (i + 1))
      walk-matched (slot_node k rest) up i =
          join-matched (slot k (place_in whole above up i)) (row up (i + 1) rest) (matched k (place_in whole above up i)) (walk-matched rest up (i + 1))
          (λ e f h g. apart_later event_place whole above up i e f (heads-of_begins event_place whole above up i e (begins k (place_in whole above up i) e h)) (row-stands rest up (i + 1) f g))

    both-begin : (ss us : Slots K) → (k : ℕ) (place : Place) → AllIn (Begins event_place place) (both_slots alike ss us k place)
    both-begin ss us k place =
        events-are (λ (p : Place). (r : Place) × (p ≡ place ++ r)) (both_slots alike ss us k place)
        (all-same (Begins place_of place) (flat old_in (both_slots alike ss us k place)) (slots_spots ss k place) (both-old alike ss us k place) (slots-begin ss k place))
        (all-same (Begins place_of place) (flat new_in (both_slots alike ss us k place)) (slots_spots us k place) (both-new alike ss us k place) (slots-begin us k place))

    tree-begins : (x : Tree K) (above : Place) → AllIn (Begins place_of above) (spots above x)
    tree-begins (block t a ss) above = λ s h. begins-of_stands place_of t above [] 0 s (spots-stand (block t a ss) above t refl s h)

    pairing-begins : (x y : Tree K) (above : Place) → AllIn (Begins event_place above) (pairing alike x y above)
    pairing-begins x y above =
        events-are (λ (p : Place). (r : Place) × (p ≡ above ++ r)) (pairing alike x y above)
        (all-same (Begins place_of above) (flat old_in (pairing alike x y above)) (spots above x) (pairing-old alike x y above) (tree-begins x above))
        (all-same (Begins place_of above) (flat new_in (pairing alike x y above)) (spots above y) (pairing-new alike x y above) (tree-begins y above))

    pairs-from : (i : ℕ) (place : Place) (ts us : Trees K) → AllIn (FromItem event_place place i) (pair_items alike i place ts us)
    pairs-from i place ts us =
        events-are (λ (p : Place). (j : ℕ) × (r : Place) × (i ≤ j) × (p ≡ place ++ item j ∷ r)) (pair_items alike i place ts us)
        (all-same (FromItem place_of place i) (flat old_in (pair_items alike i place ts us)) (item_spots i place ts) (items-old alike i place ts us) (items-from i place ts))
        (all-same (FromItem place_of place i) (flat new_in (pair_items alike i place ts us)) (item_spots i place us) (items-new alike i place ts us) (items-from i place us))

    other : (t u : Template) → same_template t u ≡ false → t ≡ u → ⊥
    other t u h same =
        let both : true ≡ false = sym (template-same t) ∙ ap (same_template t) same ∙ h in
        cc both

    mutual
      -- no place of two trees that goes comes again
      pub pairing-matched : (x y : Tree K) (above : Place) → IsMatched (pairing alike x y above)
      pairing-matched (block t a ss) (block u b us) above =
          let kept : List (Event K) = walk (λ p k. stays p k ∷ []) t above (λ k place. both_slots alike ss us k place) [] 0 t.roots in
          let turned : List (Event K) = changed (spots above (block t a ss)) (spots above (block u b us)) in
          by_test (same_template t u)
          (
          λ q.
          let same : t ≡ u = template-true t u q in
          subst (λ (zs : List (Event K)). IsMatched zs) (sym (pick_true kept turned q))
          (walk-matched t above (λ k place. both_slots alike ss us k place) (λ k place. both-begin ss us k place) (λ k place. both-matched ss us k place) t.roots [] 0)
          )
          (
          λ q.
          subst (λ (zs : List (Event K)). IsMatched zs) (sym (pick_false kept turned q))
          (changed-matched (spots above (block t a ss)) (spots above (block u b us))
          (λ s r h k. apart-spots s r (apart_templates place_of t u above s r (other t u q) (spots-stand (block t a ss) above t refl s h) (spots-stand (block u b us) above u refl r k))))
          )

      both-matched : (ss us : Slots K) → (k : ℕ) (place : Place) → IsMatched (both_slots alike ss us k place)
      both-matched no_slots us k place = come-matched (slots_spots us k place)
      both-matched (more_slots v ss) no_slots k place = gone-matched (slots_spots (more_slots v ss) k place)
      both-matched (more_slots v ss) (more_slots w us) zero place = pair-matched v w place
      both-matched (more_slots v ss) (more_slots w us) (suc k) place = both-matched ss us k place

      pair-matched : (v w : Slot K) (place : Place) → IsMatched (pair_slots alike v w place)
      pair-matched (text_slot s) (text_slot t) place = one-matched (stays place a_text) tt
      pair-matched placeholder_slot placeholder_slot place = one-matched (stays place a_placeholder) tt
      pair-matched (component_slot c) (component_slot d) place =
          let turned : List (Event K) = left place c ∷ made place d ∷ [] in
          by_test (alike c d)
          (λ q. subst (λ (zs : List (Event K)). IsMatched zs) (sym (pick_true (fed place c d ∷ []) turned q)) (one-matched (fed place c d) (λ same. q)))
          (λ q. subst (λ (zs : List (Event K)). IsMatched zs) (sym (pick_false (fed place c d ∷ []) turned q)) (single-matched (component_at place c) (component_at place d) (λ same. q)))
      pair-matched (fragment_slot no_trees) (fragment_slot no_trees) place = one-matched (stays place an_empty_fragment) tt
      pair-matched (fragment_slot (more_trees t ts)) (fragment_slot (more_trees u us)) place = items-matched 0 place (more_trees t ts) (more_trees u us)
      pair-matched (text_slot s) placeholder_slot place = single-matched (node_at place a_text) (node_at place a_placeholder) (λ same kinds. cc kinds)
      pair-matched (text_slot s) (component_slot d) place = single-matched (node_at place a_text) (component_at place d) tt
      pair-matched (text_slot s) (fragment_slot no_trees) place = single-matched (node_at place a_text) (node_at place an_empty_fragment) (λ same kinds. cc kinds)
      pair-matched (text_slot s) (fragment_slot (more_trees u us)) place = deep-right (node_at place a_text) place (more_trees u us) refl
      pair-matched placeholder_slot (text_slot t) place = single-matched (node_at place a_placeholder) (node_at place a_text) (λ same kinds. cc kinds)
      pair-matched placeholder_slot (component_slot d) place = single-matched (node_at place a_placeholder) (component_at place d) tt
      pair-matched placeholder_slot (fragment_slot no_trees) place = single-matched (node_at place a_placeholder) (node_at place an_empty_fragment) (λ same kinds. cc kinds)
      pair-matched placeholder_slot (fragment_slot (more_trees u us)) place = deep-right (node_at place a_placeholder) place (more_trees u us) refl
      pair-matched (component_slot c) (text_slot t) place = single-matched (component_at place c) (node_at place a_text) tt
      pair-matched (component_slot c) placeholder_slot place = single-matched (component_at place c) (node_at place a_placeholder) tt
      pair-matched (component_slot c) (fragment_slot no_trees) place = single-matched (component_at place c) (node_at place an_empty_fragment) tt
      pair-matched (component_slot c) (fragment_slot (more_trees u us)) place = deep-right (component_at place c) place (more_trees u us) refl
      pair-matched (fragment_slot no_trees) (text_slot t) place = single-matched (node_at place an_empty_fragment) (node_at place a_text) (λ same kinds. cc kinds)
      pair-matched (fragment_slot no_trees) placeholder_slot place = single-matched (node_at place an_empty_fragment) (node_at place a_placeholder) (λ same kinds. cc kinds)
      pair-matched (fragment_slot no_trees) (component_slot d) place = single-matched (node_at place an_empty_fragment) (component_at place d) tt
      pair-matched (fragment_slot no_trees) (fragment_slot (more_trees u us)) place = deep-right (node_at place an_empty_fragment) place (more_trees u us) refl
      pair-matched (fragment_slot (more_trees t ts)) (text_slot s) place = deep-left (node_at place a_text) place (more_trees t ts) refl
      pair-matched (fragment_slot (more_trees t ts)) placeholder_slot place = deep-left (node_at place a_placeholder) place (more_trees t ts) refl
      pair-matched (fragment_slot (more_trees t ts)) (component_slot d) place = deep-left (component_at place d) place (more_trees t ts) refl
      pair-matched (fragment_slot (more_trees t ts)) (fragment_slot no_trees) place = deep-left (node_at place an_empty_fragment) place (more_trees t ts) refl

      items-matched : (i : ℕ) (place : Place) (ts us : Trees K) → IsMatched (pair_items alike i place ts us)
      items-matched i place no_trees us = come-matched (item_spots i place us)
      items-matched i place (more_trees t ts) no_trees = gone-matched (item_spots i place (more_trees t ts))
      items-matched i place (more_trees t ts) (more_trees u us) =
          join-matched (pairing alike t u (place ++ item i ∷ [])) (pair_items alike (i + 1) place ts us)
          (pairing-matched t u (place ++ item i ∷ [])) (items-matched (i + 1) place ts us)
          (λ e x h k. apart_items event_place place i e x (pairing-begins t u (place ++ item i ∷ []) e h) (pairs-from (i + 1) place ts us x k))
