-- What becomes of places, by the marks of two trees, is what the walk side by side finds.
use Rattle.std.proofs.Common.{ℕ, zero, suc, ◌+◌, Bool, true, false, List, [], ◌∷◌, ◌++◌, ◌≡◌, map, refl, sym, ap, subst}
use Rattle.rt_lemmas.proofs.Bools.{clash as one_answer}
use Rattle.rt_model.specs.Tree.{Types, TemplateNodes, no_nodes, element_node, text_node, slot_node, Template, same_template, Tree, block, Slots, no_slots, more_slots, Slot, text_slot, placeholder_slot, component_slot, fragment_slot, Trees, no_trees, more_trees, VComponent, item, Place, an_element, a_static_text, place_in, Spot, node_at, component_at, spots, slots_spots, slot_spots, item_spots}
use Rattle.rt_model.specs.World.{Application}
use Rattle.rt_model.specs.Values.{is_same_component}
use Rattle.rt_model.proofs.Maps.{by_test}
use Rattle.rt_model.proofs.SamePlaces.{template-true}
use Rattle.run_work.specs.Events as event
use Rattle.run_work.specs.Events.{Event, walk, pairing, both_slots, pair_slots, pair_items}
use Rattle.tree_marks.specs.Marks.{Mark, stays, slot_goes, slot_way, tree_way, come_in, go_out, lone, gone, come, changed, template_marks, tree_marks, slots_marks, slot_marks, items_marks}
use Rattle.run_work.specs.Marked.{event_at, events_in}
use Rattle.run_work.proofs.Joins.{both_joined, none_more}

module _ {K : Types} where
  gone_events : (ss : List (Spot K)) → events_in (map gone ss) ≡ map event.gone ss
  gone_events [] = refl
  gone_events (node_at p k ∷ ss) = ap (λ (zs : List (Event K)). event.goes p k ∷ zs) (gone_events ss)
  gone_events (component_at p c ∷ ss) = ap (λ (zs : List (Event K)). event.left p c ∷ zs) (gone_events ss)

  pub come_events : (ss : List (Spot K)) → events_in (map come ss) ≡ map event.come ss
  come_events [] = refl
  come_events (node_at p k ∷ ss) = ap (λ (zs : List (Event K)). event.comes p k ∷ zs) (come_events ss)
  come_events (component_at p c ∷ ss) = ap (λ (zs : List (Event K)). event.made p c ∷ zs) (come_events ss)

  changed_events : (olds news : List (Spot K)) → events_in (changed olds news) ≡ event.changed olds news
  changed_events olds news = both_joined event_at (map gone olds) (map come news) (gone_events olds) (come_events news)

  -- a template that stays
  template_events : (whole : Template) (above : Place) (ms : ℕ → Place → List (Mark K)) (es : ℕ → Place → List (Event K))
      → ((k : ℕ) (place : Place) → events_in (ms k place) ≡ es k place)
      → (up : List ℕ) (i : ℕ) (nodes : TemplateNodes)
      → events_in (template_marks (λ p k. stays p k) whole above ms up i nodes) ≡ walk (λ p k. event.stays p k ∷ []) whole above es up i nodes
  template_events whole above ms es h up i no_nodes = refl
  template_events whole above ms es h up i (element_node tag namespace attributes children rest) =
      ap (λ (zs : List (Event K)). event.stays (place_in whole above up i) an_element ∷ zs)
      (both_joined event_at
      (template_marks (λ p k. stays p k) whole above ms (up ++ i ∷ []) 0 children)
      (template_marks (λ p k. stays p k) whole above ms up (i + 1) rest)
      (template_events whole above ms es h (up ++ i ∷ []) 0 children)
      (template_events whole above ms es h up (i + 1) rest))
  template_events whole above ms es h up i (text_node text rest) =
      ap (λ (zs : List (Event K)). event.stays (place_in whole above up i) a_static_text ∷ zs) (template_events whole above ms es h up (i + 1) rest)
  template_events whole above ms es h up i (slot_node k rest) =
      both_joined event_at
      (ms k (place_in whole above up i))
      (template_marks (λ p k. stays p k) whole above ms up (i + 1) rest)
      (h k (place_in whole above up i))
      (template_events whole above ms es h up (i + 1) rest)

  -- all that stood in a slot goes, and all that stands there now comes
  way_events : (place : Place) (y x : Slot K)
      → events_in (slot_goes place x ∷ changed (slot_spots x place) (slot_spots y place) ++ slot_way place y x ∷ []) ≡ event.changed (slot_spots x place) (slot_spots y place)
  way_events place y x =
      none_more event_at (changed (slot_spots x place) (slot_spots y place)) (slot_way place y x) refl (changed_events (slot_spots x place) (slot_spots y place))

  module _ (app : Application K) where
    abbrev alike : VComponent K → VComponent K → Bool
    alike c d = is_same_component app c d

    mutual
      pub tree_events : (above : Place) (y x : Tree K) → events_in (tree_marks app above y x) ≡ pairing alike x y above
      tree_events above (block template new slots) (block other old olds) =
          by_test (same_template template other)
          (λ e.
          let same : template ≡ other = template-true template other e in
          let still : same_template template template ≡ true = subst (λ (o : Template). same_template template o ≡ true) (sym same) e in
          subst
          (λ (o : Template). events_in (tree_marks app above (block template new slots) (block o old olds)) ≡ pairing alike (block o old olds) (block template new slots) above)
          same
          (rw still
          (template_events template above (λ k place. slots_marks app slots olds k place) (λ k place. both_slots alike olds slots k place)
          (λ k place. slots_events slots olds k place) [] 0 template.roots)))
          (λ e.
          by_test (same_template other template)
          (λ r.
          let same : other ≡ template = template-true other template r in
          one_answer
          (subst (λ (o : Template). same_template o template ≡ true) same r)
          (subst (λ (o : Template). same_template template o ≡ false) same e))
          (λ r.
          rw (e, r)
          (none_more event_at
          (changed (spots above (block other old olds)) (spots above (block template new slots)))
          (tree_way above (block template new slots) (block other old olds))
          refl
          (changed_events (spots above (block other old olds)) (spots above (block template new slots))))))

      slots_events : (ys xs : Slots K) (k : ℕ) (place : Place) → events_in (slots_marks app ys xs k place) ≡ both_slots alike xs ys k place
      slots_events no_slots no_slots k place = refl
      slots_events no_slots (more_slots u others) k place = gone_events (slots_spots (more_slots u others) k place)
      slots_events (more_slots v rest) no_slots zero place =
          none_more event_at (map come (slot_spots v place)) (lone place v) refl (come_events (slot_spots v place))
      slots_events (more_slots v rest) no_slots (suc k) place = slots_events rest no_slots k place
      slots_events (more_slots v rest) (more_slots u others) zero place = slot_events place v u
      slots_events (more_slots v rest) (more_slots u others) (suc k) place = slots_events rest others k place

      slot_events : (place : Place) (y x : Slot K) → events_in (slot_marks app place y x) ≡ pair_slots alike x y place
      slot_events place (text_slot t) (text_slot u) = refl
      slot_events place placeholder_slot placeholder_slot = refl
      slot_events place (component_slot c) (component_slot d) =
          by_test (is_same_component app d c) (λ e. rw e refl) (λ e. rw e refl)
      slot_events place (fragment_slot no_trees) (fragment_slot no_trees) = refl
      slot_events place (fragment_slot (more_trees y ys)) (fragment_slot (more_trees x xs)) =
          items_events place 0 [] (more_trees y ys) (more_trees x xs)
      slot_events place (text_slot t) (fragment_slot no_trees) = way_events place (text_slot t) (fragment_slot no_trees)
      slot_events place (text_slot t) (fragment_slot (more_trees x xs)) = way_events place (text_slot t) (fragment_slot (more_trees x xs))
      slot_events place placeholder_slot (fragment_slot no_trees) = way_events place placeholder_slot (fragment_slot no_trees)
      slot_events place placeholder_slot (fragment_slot (more_trees x xs)) = way_events place placeholder_slot (fragment_slot (more_trees x xs))
      slot_events place (component_slot c) (fragment_slot no_trees) = way_events place (component_slot c) (fragment_slot no_trees)
      slot_events place (component_slot c) (fragment_slot (more_trees x xs)) = way_events place (component_slot c) (fragment_slot (more_trees x xs))
      slot_events place y x = way_events place y x

      items_events : (place : Place) (i : ℕ) (front : List (Tree K)) (ys xs : Trees K)
          → events_in (items_marks app place i front ys xs) ≡ pair_items alike i place xs ys
      items_events place i front no_trees no_trees = refl
      items_events place i front no_trees (more_trees x xs) =
          none_more event_at (map gone (item_spots i place (more_trees x xs))) (go_out place i (more_trees x xs)) refl
          (gone_events (item_spots i place (more_trees x xs)))
      items_events place i front (more_trees y ys) no_trees =
          none_more event_at (map come (item_spots i place (more_trees y ys))) (come_in place front i (more_trees y ys)) refl
          (come_events (item_spots i place (more_trees y ys)))
      items_events place i front (more_trees y ys) (more_trees x xs) =
          both_joined event_at
          (tree_marks app (place ++ item i ∷ []) y x)
          (items_marks app place (i + 1) (front ++ y ∷ []) ys xs)
          (tree_events (place ++ item i ∷ []) y x)
          (items_events place (i + 1) (front ++ y ∷ []) ys xs)
