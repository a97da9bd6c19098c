-- The events of two trees side by side have the old tree's spots in order, and the new tree's.
use Rattle.std.proofs.Common.{ℕ, zero, suc, ◌+◌, Bool, true, List, [], ◌∷◌, ◌++◌, ◌≡◌, map, refl, sym, ap, ◌∙◌, append-nil}
use Rattle.rt_model.specs.Tree.{Types, same_template, Tree, block, Slots, no_slots, more_slots, Slot, text_slot, placeholder_slot, component_slot, fragment_slot, Trees, no_trees, more_trees, VComponent, item, Place, Spot, node_at, component_at, spots, slots_spots, slot_spots, item_spots}
use Rattle.rt_model.proofs.Maps.{by_test, pick_true, pick_false}
pub use Rattle.rt_model.proofs.SamePlaces.{template-true}
use Rattle.run_work.specs.Events.{Event, stays, fed, left, made, walk, gone, come, changed, pairing, both_slots, pair_slots, pair_items}
use Rattle.run_work.proofs.Flats.{flat, flat-append, walk-flat, old_in, new_in, spots-walk}

and-same : (b : Bool) → b ≡ true → true ≡ true
and-same b h = refl

module _ {K : Types} where
  -- spots that go are the old ones
  pub gone-old : (ss : List (Spot K)) → flat old_in (map gone ss) ≡ ss
  gone-old [] = refl
  gone-old (node_at p k ∷ ss) = ap (λ zs. node_at p k ∷ zs) (gone-old ss)
  gone-old (component_at p c ∷ ss) = ap (λ zs. component_at p c ∷ zs) (gone-old ss)

  -- none of them is new
  pub gone-new : (ss : List (Spot K)) → flat new_in (map gone ss) ≡ []
  gone-new [] = refl
  gone-new (node_at p k ∷ ss) = gone-new ss
  gone-new (component_at p c ∷ ss) = gone-new ss

  -- none that comes is old
  pub come-old : (ss : List (Spot K)) → flat old_in (map come ss) ≡ []
  come-old [] = refl
  come-old (node_at p k ∷ ss) = come-old ss
  come-old (component_at p c ∷ ss) = come-old ss

  -- they are the new ones
  pub come-new : (ss : List (Spot K)) → flat new_in (map come ss) ≡ ss
  come-new [] = refl
  come-new (node_at p k ∷ ss) = ap (λ zs. node_at p k ∷ zs) (come-new ss)
  come-new (component_at p c ∷ ss) = ap (λ zs. component_at p c ∷ zs) (come-new ss)

  -- where all turns, the old ones are those that go
  pub changed-old : (olds news : List (Spot K)) → flat old_in (changed olds news) ≡ olds
  changed-old olds news = flat-append old_in (map gone olds) (map come news) ∙ (λ t. gone-old olds t ++ come-old news t) ∙ append-nil olds

  -- and the new ones those that come
  pub changed-new : (olds news : List (Spot K)) → flat new_in (changed olds news) ≡ news
  changed-new olds news = flat-append new_in (map gone olds) (map come news) ∙ (λ t. gone-new olds t ++ come-new news t)

  module _ (alike : VComponent K → VComponent K → Bool) where
    mutual
      -- the old tree's spots
      pub pairing-old : (x y : Tree K) (above : Place) → flat old_in (pairing alike x y above) ≡ spots above x
      pairing-old (block t a ss) (block u b us) above =
          let kept : List (Event K) = walk (λ p k. stays p k ∷ []) t above (λ k place. both_slots alike ss us k place) [] 0 t.roots in
          let turned : List (Event K) = changed (spots above (block t a ss)) (spots above (block u b us)) in
          by_test (same_template t u)
          (
          λ q.
          let same : t ≡ u = template-true t u q in
          ap (flat old_in) (pick_true kept turned q)
          ∙ walk-flat old_in (λ p k. stays p k ∷ []) t above (λ k place. both_slots alike ss us k place) [] 0 t.roots
          ∙ (λ i. walk (λ p k. node_at p k ∷ []) t above (λ k place. both-old ss us k place i) [] 0 t.roots)
          ∙ sym (spots-walk t above (λ k place. slots_spots ss k place) [] 0 t.roots)
          )
          (λ q. ap (flat old_in) (pick_false kept turned q) ∙ changed-old (spots above (block t a ss)) (spots above (block u b us)))

      -- those of a slot with a number
      pub both-old : (ss us : Slots K) → (k : ℕ) (place : Place) → flat old_in (both_slots alike ss us k place) ≡ slots_spots ss k place
      both-old no_slots us k place = come-old (slots_spots us k place)
      both-old (more_slots v ss) no_slots k place = gone-old (slots_spots (more_slots v ss) k place)
      both-old (more_slots v ss) (more_slots w us) zero place = pair-old v w place
      both-old (more_slots v ss) (more_slots w us) (suc k) place = both-old ss us k place

      -- those of what stands in a slot
      pub pair-old : (v w : Slot K) (place : Place) → flat old_in (pair_slots alike v w place) ≡ slot_spots v place
      pair-old (text_slot s) (text_slot t) place = refl
      pair-old placeholder_slot placeholder_slot place = refl
      pair-old (component_slot c) (component_slot d) place =
          let turned : List (Event K) = left place c ∷ made place d ∷ [] in
          by_test (alike c d) (λ q. ap (flat old_in) (pick_true (fed place c d ∷ []) turned q)) (λ q. ap (flat old_in) (pick_false (fed place c d ∷ []) turned q))
      pair-old (fragment_slot no_trees) (fragment_slot no_trees) place = refl
      pair-old (fragment_slot (more_trees t ts)) (fragment_slot (more_trees u us)) place = items-old 0 place (more_trees t ts) (more_trees u us)
      pair-old v w place = changed-old (slot_spots v place) (slot_spots w place)

      -- those of items
      pub items-old : (i : ℕ) (place : Place) (ts us : Trees K) → flat old_in (pair_items alike i place ts us) ≡ item_spots i place ts
      items-old i place no_trees us = come-old (item_spots i place us)
      items-old i place (more_trees t ts) no_trees = gone-old (item_spots i place (more_trees t ts))
      items-old i place (more_trees t ts) (more_trees u us) =
          flat-append old_in (pairing alike t u (place ++ item i ∷ [])) (pair_items alike (i + 1) place ts us)
          ∙ (λ z. pairing-old t u (place ++ item i ∷ []) z ++ items-old (i + 1) place ts us z)

    mutual
      -- the new tree's spots
      pub pairing-new : (x y : Tree K) (above : Place) → flat new_in (pairing alike x y above) ≡ spots above y
      pairing-new (block t a ss) (block u b us) above =
          let kept : List (Event K) = walk (λ p k. stays p k ∷ []) t above (λ k place. both_slots alike ss us k place) [] 0 t.roots in
          let turned : List (Event K) = changed (spots above (block t a ss)) (spots above (block u b us)) in
          by_test (same_template t u)
          (
          λ q.
          let same : t ≡ u = template-true t u q in
          ap (flat new_in) (pick_true kept turned q)
          ∙ walk-flat new_in (λ p k. stays p k ∷ []) t above (λ k place. both_slots alike ss us k place) [] 0 t.roots
          ∙ (λ i. walk (λ p k. node_at p k ∷ []) t above (λ k place. both-new ss us k place i) [] 0 t.roots)
          ∙ (λ i. walk (λ p k. node_at p k ∷ []) (same i) above (λ k place. slots_spots us k place) [] 0 ((same i).roots))
          ∙ sym (spots-walk u above (λ k place. slots_spots us k place) [] 0 u.roots)
          )
          (λ q. ap (flat new_in) (pick_false kept turned q) ∙ changed-new (spots above (block t a ss)) (spots above (block u b us)))

      -- those of a slot with a number
      pub both-new : (ss us : Slots K) → (k : ℕ) (place : Place) → flat new_in (both_slots alike ss us k place) ≡ slots_spots us k place
      both-new no_slots us k place = come-new (slots_spots us k place)
      both-new (more_slots v ss) no_slots k place = gone-new (slots_spots (more_slots v ss) k place)
      both-new (more_slots v ss) (more_slots w us) zero place = pair-new v w place
      both-new (more_slots v ss) (more_slots w us) (suc k) place = both-new ss us k place

      -- those of what stands in a slot
      pub pair-new : (v w : Slot K) (place : Place) → flat new_in (pair_slots alike v w place) ≡ slot_spots w place
      pair-new (text_slot s) (text_slot t) place = refl
      pair-new placeholder_slot placeholder_slot place = refl
      pair-new (component_slot c) (component_slot d) place =
          let turned : List (Event K) = left place c ∷ made place d ∷ [] in
          by_test (alike c d) (λ q. ap (flat new_in) (pick_true (fed place c d ∷ []) turned q)) (λ q. ap (flat new_in) (pick_false (fed place c d ∷ []) turned q))
      pair-new (fragment_slot no_trees) (fragment_slot no_trees) place = refl
      pair-new (fragment_slot (more_trees t ts)) (fragment_slot (more_trees u us)) place = items-new 0 place (more_trees t ts) (more_trees u us)
      pair-new v w place = changed-new (slot_spots v place) (slot_spots w place)

      -- those of items
      pub items-new : (i : ℕ) (place : Place) (ts us : Trees K) → flat new_in (pair_items alike i place ts us) ≡ item_spots i place us
      items-new i place no_trees us = come-new (item_spots i place us)
      items-new i place (more_trees t ts) no_trees = gone-new (item_spots i place (more_trees t ts))
      items-new i place (more_trees t ts) (more_trees u us) =
          flat-append new_in (pairing alike t u (place ++ item i ∷ [])) (pair_items alike (i + 1) place ts us)
          ∙ (λ z. pairing-new t u (place ++ item i ∷ []) z ++ items-new (i + 1) place ts us z)
