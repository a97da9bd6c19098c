-- What is read at a mark of two trees was met before.
use Rattle.std.proofs.Common.{ℕ, zero, suc, ◌+◌, List, [], ◌∷◌, ◌++◌, ◌≡◌, length, map, inl, inr, refl, sym, ap, subst, ◌∙◌, append-nil, append_assoc, length-append, arith}
use Rattle.std.specs.Prelude.{Contains}
use Rattle.rt_model.specs.Tree.{Types, TemplateNodes, no_nodes, element_node, text_node, slot_node, Template, same_template, Tree, block, Slots, no_slots, more_slots, Slot, text_slot, placeholder_slot, component_slot, fragment_slot, Trees, no_trees, more_trees, item, Place, an_element, a_static_text, a_text, Spot, node_at, component_at, place_in, spots, slots_spots, slot_spots, item_spots}
use Rattle.rt_model.specs.World.{Application}
use Rattle.rt_model.specs.Values.{is_same_component}
use Rattle.rt_model.proofs.Maps.{by_test}
use Rattle.tree_marks.specs.Marks.{Mark, stays, slot_goes, slot_way, tree_way, come_in, go_out, lone, gone, come, changed, template_marks, tree_marks, slots_marks, slot_marks, items_marks}
use Rattle.tree_marks.specs.Spots.{brings, all_brought, front_spots, reads}
use Rattle.law_patch.specs.Behind.{AllKnown, ReadBehind}
use Rattle.law_patch.proofs.Known.{contains_left, contains_either, none_asked, just_brought}
use Rattle.law_patch.proofs.Brought.{come_all, changed_all, tree_brought}

module _ {K : Types} where
  -- some marks, then others
  behind_join : (known : List (Spot K)) (ms ns : List (Mark K)) → ReadBehind known ms → ReadBehind (known ++ all_brought ms) ns → ReadBehind known (ms ++ ns)
  behind_join known [] ns h g = subst (λ (ks : List (Spot K)). ReadBehind ks ns) (append-nil known) g
  behind_join known (m ∷ ms) ns h g = (
    h.0,
    behind_join (known ++ brings m) ms ns h.1
        (subst (λ (ks : List (Spot K)). ReadBehind ks ns) (sym (append_assoc known (brings m) (all_brought ms))) g),
  )

  gone_behind : (known : List (Spot K)) (ss : List (Spot K)) → ReadBehind known (map gone ss)
  gone_behind known [] = tt
  gone_behind known (node_at p k ∷ ss) = (none_asked known, gone_behind (known ++ []) ss)
  gone_behind known (component_at p c ∷ ss) = (none_asked known, gone_behind (known ++ []) ss)

  come_behind : (known : List (Spot K)) (ss : List (Spot K)) → ReadBehind known (map come ss)
  come_behind known [] = tt
  come_behind known (node_at p k ∷ ss) = (none_asked known, come_behind (known ++ node_at p k ∷ []) ss)
  come_behind known (component_at p c ∷ ss) = (none_asked known, come_behind (known ++ component_at p c ∷ []) ss)

  changed_behind : (known : List (Spot K)) (olds news : List (Spot K)) → ReadBehind known (changed olds news)
  changed_behind known olds news =
      behind_join known (map gone olds) (map come news) (gone_behind known olds) (come_behind (known ++ all_brought (map gone olds)) news)

  -- a mark that reads what was just brought, and what is known besides
  then_read : (known : List (Spot K)) (ms : List (Mark K)) (m : Mark K) → ReadBehind known ms → AllKnown (known ++ all_brought ms) (reads m) → ReadBehind known (ms ++ m ∷ [])
  then_read known ms m h g = behind_join known ms (m ∷ []) h (g, tt)

  front_joined : (place : Place) (j i : ℕ) (front : List (Tree K)) (y : Tree K) → i ≡ j + length front → front_spots place j (front ++ y ∷ []) ≡ front_spots place j front ++ spots (place ++ item i ∷ []) y
  front_joined place j i [] y h =
      ap (λ (n : ℕ). spots (place ++ item n ∷ []) y ++ []) (omega (arith, h)) ∙ append-nil (spots (place ++ item i ∷ []) y)
  front_joined place j i (x ∷ front) y h =
      ap (λ (zs : List (Spot K)). spots (place ++ item j ∷ []) x ++ zs) (front_joined place (j + 1) i front y (omega (arith, h)))
      ∙ sym (append_assoc (spots (place ++ item j ∷ []) x) (front_spots place (j + 1) front) (spots (place ++ item i ∷ []) y))

  -- what stands in a slot gives way to what came there
  way_behind : (known : List (Spot K)) (place : Place) (y x : Slot K) → ReadBehind known (slot_goes place x ∷ changed (slot_spots x place) (slot_spots y place) ++ slot_way place y x ∷ [])
  way_behind known place y x =
      let here : List (Spot K) = known ++ [] in
      let olds : List (Spot K) = slot_spots x place in
      let news : List (Spot K) = slot_spots y place in (
        none_asked known,
        then_read here (changed olds news) (slot_way place y x) (changed_behind here olds news)
            (just_brought here (all_brought (changed olds news)) news (changed_all olds news)),
      )

  template_behind : (whole : Template) (above : Place) (ms : ℕ → Place → List (Mark K))
      → ((known : List (Spot K)) (k : ℕ) (place : Place) → ReadBehind known (ms k place))
      → (known : List (Spot K)) (up : List ℕ) (i : ℕ) (nodes : TemplateNodes)
      → ReadBehind known (template_marks (λ p k. stays p k) whole above ms up i nodes)
  template_behind whole above ms h known up i no_nodes = tt
  template_behind whole above ms h known up i (element_node tag namespace attributes children rest) =
      let here : List (Spot K) = known ++ node_at (place_in whole above up i) an_element ∷ [] in
      let below : List (Mark K) = template_marks (λ p k. stays p k) whole above ms (up ++ i ∷ []) 0 children in (
        none_asked known,
        behind_join here below (template_marks (λ p k. stays p k) whole above ms up (i + 1) rest)
            (template_behind whole above ms h here (up ++ i ∷ []) 0 children)
            (template_behind whole above ms h (here ++ all_brought below) up (i + 1) rest),
      )
  template_behind whole above ms h known up i (text_node text rest) =
      (none_asked known, template_behind whole above ms h (known ++ node_at (place_in whole above up i) a_static_text ∷ []) up (i + 1) rest)
  template_behind whole above ms h known up i (slot_node k rest) =
      behind_join known (ms k (place_in whole above up i)) (template_marks (λ p k. stays p k) whole above ms up (i + 1) rest)
      (h known k (place_in whole above up i))
      (template_behind whole above ms h (known ++ all_brought (ms k (place_in whole above up i))) up (i + 1) rest)

  module _ (app : Application K) where
    mutual
      pub tree_behind : (known : List (Spot K)) (above : Place) (y x : Tree K) → ReadBehind known (tree_marks app above y x)
      tree_behind known above (block template new slots) (block other old olds) =
          by_test (same_template template other)
          (λ e.
          rw e (
            none_asked known,
            template_behind template above (λ k place. slots_marks app slots olds k place)
                (λ ks k place. slots_behind ks slots olds k place) (known ++ []) [] 0 template.roots,
          ))
          (λ e.
          let olds_there : List (Spot K) = spots above (block other old olds) in
          let news_there : List (Spot K) = spots above (block template new slots) in
          let here : List (Spot K) = known ++ [] in
          rw e (
            none_asked known,
            then_read here (changed olds_there news_there) (tree_way above (block template new slots) (block other old olds))
                (changed_behind here olds_there news_there)
                (just_brought here (all_brought (changed olds_there news_there)) news_there (changed_all olds_there news_there)),
          ))

      slots_behind : (known : List (Spot K)) (ys xs : Slots K) (k : ℕ) (place : Place) → ReadBehind known (slots_marks app ys xs k place)
      slots_behind known no_slots no_slots k place = tt
      slots_behind known no_slots (more_slots u others) k place = gone_behind known (slots_spots (more_slots u others) k place)
      slots_behind known (more_slots v rest) no_slots zero place =
          then_read known (map come (slot_spots v place)) (lone place v)
          (come_behind known (slot_spots v place))
          (just_brought known (all_brought (map come (slot_spots v place))) (slot_spots v place) (come_all (slot_spots v place)))
      slots_behind known (more_slots v rest) no_slots (suc k) place = slots_behind known rest no_slots k place
      slots_behind known (more_slots v rest) (more_slots u others) zero place = slot_behind known place v u
      slots_behind known (more_slots v rest) (more_slots u others) (suc k) place = slots_behind known rest others k place

      slot_behind : (known : List (Spot K)) (place : Place) (y x : Slot K) → ReadBehind known (slot_marks app place y x)
      slot_behind known place (text_slot t) (text_slot u) = (none_asked known, (none_asked (known ++ node_at place a_text ∷ []), tt))
      slot_behind known place placeholder_slot placeholder_slot = (none_asked known, tt)
      slot_behind known place (component_slot c) (component_slot d) =
          by_test (is_same_component app d c)
          (λ e. rw e (none_asked known, tt))
          (λ e. rw e (way_behind known place (component_slot c) (component_slot d)))
      slot_behind known place (fragment_slot no_trees) (fragment_slot no_trees) = (none_asked known, tt)
      slot_behind known place (fragment_slot (more_trees y ys)) (fragment_slot (more_trees x xs)) =
          items_behind known place 0 [] (more_trees y ys) (more_trees x xs) refl (none_asked known)
      slot_behind known place y x = way_behind known place y x

      items_behind : (known : List (Spot K)) (place : Place) (i : ℕ) (front : List (Tree K)) (ys xs : Trees K) → i ≡ length front → AllKnown known (front_spots place 0 front)
          → ReadBehind known (items_marks app place i front ys xs)
      items_behind known place i front no_trees no_trees p h = tt
      items_behind known place i front no_trees (more_trees x xs) p h =
          let going : List (Spot K) = item_spots i place (more_trees x xs) in
          then_read known (map gone going) (go_out place i (more_trees x xs)) (gone_behind known going)
          (none_asked (known ++ all_brought (map gone going)))
      items_behind known place i front (more_trees y ys) no_trees p h =
          let coming : List (Spot K) = item_spots i place (more_trees y ys) in
          let brought : List (Spot K) = all_brought (map come coming) in
          then_read known (map come coming) (come_in place front i (more_trees y ys))
          (come_behind known coming)
          (λ s a.
          elim (contains_either (front_spots place 0 front) coming s a) [
            | inl g ↦ contains_left known brought s (h s g)
            | inr g ↦ just_brought known brought coming (come_all coming) s g
          ])
      items_behind known place i front (more_trees y ys) (more_trees x xs) p h =
          let above : Place = place ++ item i ∷ [] in
          let pair : List (Mark K) = tree_marks app above y x in
          behind_join known pair (items_marks app place (i + 1) (front ++ y ∷ []) ys xs)
          (tree_behind known above y x)
          (items_behind (known ++ all_brought pair) place (i + 1) (front ++ y ∷ []) ys xs
          (omega (arith, p, length-append front (y ∷ [])))
          (λ s a.
          elim (contains_either (front_spots place 0 front) (spots above y) s (subst (λ (zs : List (Spot K)). Contains zs s) (front_joined place 0 i front y (omega (arith, p))) a)) [
            | inl g ↦ contains_left known (all_brought pair) s (h s g)
            | inr g ↦ just_brought known (all_brought pair) (spots above y) (tree_brought app above y x) s g
          ]))
