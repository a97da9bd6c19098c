-- What is read where something new comes or gives way came new before.
use Rattle.std.proofs.Common.{ℕ, zero, suc, ◌+◌, List, [], ◌∷◌, ◌++◌, ◌≡◌, map, refl, sym, ap, subst, append-nil, append_assoc}
use Rattle.rt_model.specs.Tree.{Types, TemplateNodes, no_nodes, element_node, text_node, slot_node, Template, same_template, Tree, block, Slots, no_slots, more_slots, Slot, text_slot, placeholder_slot, component_slot, fragment_slot, Trees, no_trees, more_trees, item, Place, Spot, node_at, component_at, place_in, spots, slots_spots, slot_spots, item_spots}
use Rattle.rt_model.specs.World.{Application}
use Rattle.rt_model.specs.Values.{is_same_component}
use Rattle.rt_model.proofs.Maps.{by_test}
use Rattle.tree_marks.specs.Marks.{Mark, stays, slot_goes, slot_way, tree_way, come_in, go_out, lone, gone, come, changed, template_marks, tree_marks, slots_marks, slot_marks, items_marks}
use Rattle.run_work.proofs.Joins.{both_joined}
use Rattle.law_patch.specs.Behind.{AllKnown}
use Rattle.law_patch.specs.Fresh.{FreshBehind, all_fresh, fresh, reads_fresh}
use Rattle.law_patch.proofs.Known.{none_asked, just_brought}

module _ {K : Types} where
  -- what goes is nothing new, what comes is
  gone_none : (ss : List (Spot K)) → all_fresh (map gone ss) ≡ []
  gone_none [] = refl
  gone_none (node_at p k ∷ ss) = gone_none ss
  gone_none (component_at p c ∷ ss) = gone_none ss

  come_all : (ss : List (Spot K)) → all_fresh (map come ss) ≡ ss
  come_all [] = refl
  come_all (node_at p k ∷ ss) = ap (λ (zs : List (Spot K)). node_at p k ∷ zs) (come_all ss)
  come_all (component_at p c ∷ ss) = ap (λ (zs : List (Spot K)). component_at p c ∷ zs) (come_all ss)

  changed_all : (olds news : List (Spot K)) → all_fresh (changed olds news) ≡ news
  changed_all olds news = both_joined fresh (map gone olds) (map come news) (gone_none olds) (come_all news)

  -- some marks, then others
  fresh_join : (known : List (Spot K)) (ms ns : List (Mark K)) → FreshBehind known ms → FreshBehind (known ++ all_fresh ms) ns → FreshBehind known (ms ++ ns)
  fresh_join known [] ns h g = subst (λ (ks : List (Spot K)). FreshBehind ks ns) (append-nil known) g
  fresh_join known (m ∷ ms) ns h g = (
    h.0,
    fresh_join (known ++ fresh m) ms ns h.1
        (subst (λ (ks : List (Spot K)). FreshBehind ks ns) (sym (append_assoc known (fresh m) (all_fresh ms))) g),
  )

  gone_fresh : (known : List (Spot K)) (ss : List (Spot K)) → FreshBehind known (map gone ss)
  gone_fresh known [] = tt
  gone_fresh known (node_at p k ∷ ss) = (none_asked known, gone_fresh (known ++ []) ss)
  gone_fresh known (component_at p c ∷ ss) = (none_asked known, gone_fresh (known ++ []) ss)

  come_fresh : (known : List (Spot K)) (ss : List (Spot K)) → FreshBehind known (map come ss)
  come_fresh known [] = tt
  come_fresh known (node_at p k ∷ ss) = (none_asked known, come_fresh (known ++ node_at p k ∷ []) ss)
  come_fresh known (component_at p c ∷ ss) = (none_asked known, come_fresh (known ++ component_at p c ∷ []) ss)

  changed_fresh : (known : List (Spot K)) (olds news : List (Spot K)) → FreshBehind known (changed olds news)
  changed_fresh known olds news =
      fresh_join known (map gone olds) (map come news) (gone_fresh known olds) (come_fresh (known ++ all_fresh (map gone olds)) news)

  -- a mark that reads what was just brought, and what is known besides
  then_read : (known : List (Spot K)) (ms : List (Mark K)) (m : Mark K) → FreshBehind known ms → AllKnown (known ++ all_fresh ms) (reads_fresh m) → FreshBehind known (ms ++ m ∷ [])
  then_read known ms m h g = fresh_join known ms (m ∷ []) h (g, tt)

  -- what stands in a slot gives way to what came there
  way_fresh : (known : List (Spot K)) (place : Place) (y x : Slot K) → FreshBehind known (slot_goes place x ∷ changed (slot_spots x place) (slot_spots y place) ++ slot_way place y x ∷ [])
  way_fresh known place y x =
      let here : List (Spot K) = known ++ [] in
      let olds : List (Spot K) = slot_spots x place in
      let news : List (Spot K) = slot_spots y place in (
        none_asked known,
        then_read here (changed olds news) (slot_way place y x) (changed_fresh here olds news)
            (just_brought here (all_fresh (changed olds news)) news (changed_all olds news)),
      )

  template_fresh : (whole : Template) (above : Place) (ms : ℕ → Place → List (Mark K))
      → ((known : List (Spot K)) (k : ℕ) (place : Place) → FreshBehind known (ms k place))
      → (known : List (Spot K)) (up : List ℕ) (i : ℕ) (nodes : TemplateNodes)
      → FreshBehind known (template_marks (λ p k. stays p k) whole above ms up i nodes)
  template_fresh whole above ms h known up i no_nodes = tt
  template_fresh whole above ms h known up i (element_node tag namespace attributes children rest) =
      let here : List (Spot K) = known ++ [] in
      let below : List (Mark K) = template_marks (λ p k. stays p k) whole above ms (up ++ i ∷ []) 0 children in (
        none_asked known,
        fresh_join here below (template_marks (λ p k. stays p k) whole above ms up (i + 1) rest)
            (template_fresh whole above ms h here (up ++ i ∷ []) 0 children)
            (template_fresh whole above ms h (here ++ all_fresh below) up (i + 1) rest),
      )
  template_fresh whole above ms h known up i (text_node text rest) =
      (none_asked known, template_fresh whole above ms h (known ++ []) up (i + 1) rest)
  template_fresh whole above ms h known up i (slot_node k rest) =
      fresh_join known (ms k (place_in whole above up i)) (template_marks (λ p k. stays p k) whole above ms up (i + 1) rest)
      (h known k (place_in whole above up i))
      (template_fresh whole above ms h (known ++ all_fresh (ms k (place_in whole above up i))) up (i + 1) rest)

  module _ (app : Application K) where
    mutual
      pub tree_fresh : (known : List (Spot K)) (above : Place) (y x : Tree K) → FreshBehind known (tree_marks app above y x)
      tree_fresh known above (block template new slots) (block other old olds) =
          by_test (same_template template other)
          (λ e.
          rw e (
            none_asked known,
            template_fresh template above (λ k place. slots_marks app slots olds k place)
                (λ ks k place. slots_fresh ks slots olds k place) (known ++ []) [] 0 template.roots,
          ))
          (λ e.
          let olds_there : List (Spot K) = spots above (block other old olds) in
          let news_there : List (Spot K) = spots above (block template new slots) in
          let here : List (Spot K) = known ++ [] in
          rw e (
            none_asked known,
            then_read here (changed olds_there news_there) (tree_way above (block template new slots) (block other old olds))
                (changed_fresh here olds_there news_there)
                (just_brought here (all_fresh (changed olds_there news_there)) news_there (changed_all olds_there news_there)),
          ))

      slots_fresh : (known : List (Spot K)) (ys xs : Slots K) (k : ℕ) (place : Place) → FreshBehind known (slots_marks app ys xs k place)
      slots_fresh known no_slots no_slots k place = tt
      slots_fresh known no_slots (more_slots u others) k place = gone_fresh known (slots_spots (more_slots u others) k place)
      slots_fresh known (more_slots v rest) no_slots zero place =
          then_read known (map come (slot_spots v place)) (lone place v)
          (come_fresh known (slot_spots v place))
          (just_brought known (all_fresh (map come (slot_spots v place))) (slot_spots v place) (come_all (slot_spots v place)))
      slots_fresh known (more_slots v rest) no_slots (suc k) place = slots_fresh known rest no_slots k place
      slots_fresh known (more_slots v rest) (more_slots u others) zero place = slot_fresh known place v u
      slots_fresh known (more_slots v rest) (more_slots u others) (suc k) place = slots_fresh known rest others k place

      slot_fresh : (known : List (Spot K)) (place : Place) (y x : Slot K) → FreshBehind known (slot_marks app place y x)
      slot_fresh known place (text_slot t) (text_slot u) = (none_asked known, (none_asked (known ++ []), tt))
      slot_fresh known place placeholder_slot placeholder_slot = (none_asked known, tt)
      slot_fresh known place (component_slot c) (component_slot d) =
          by_test (is_same_component app d c)
          (λ e. rw e (none_asked known, tt))
          (λ e. rw e (way_fresh known place (component_slot c) (component_slot d)))
      slot_fresh known place (fragment_slot no_trees) (fragment_slot no_trees) = (none_asked known, tt)
      slot_fresh known place (fragment_slot (more_trees y ys)) (fragment_slot (more_trees x xs)) =
          items_fresh known place 0 [] (more_trees y ys) (more_trees x xs)
      slot_fresh known place y x = way_fresh known place y x

      items_fresh : (known : List (Spot K)) (place : Place) (i : ℕ) (front : List (Tree K)) (ys xs : Trees K) → FreshBehind known (items_marks app place i front ys xs)
      items_fresh known place i front no_trees no_trees = tt
      items_fresh known place i front no_trees (more_trees x xs) =
          let going : List (Spot K) = item_spots i place (more_trees x xs) in
          then_read known (map gone going) (go_out place i (more_trees x xs)) (gone_fresh known going)
          (none_asked (known ++ all_fresh (map gone going)))
      items_fresh known place i front (more_trees y ys) no_trees =
          let coming : List (Spot K) = item_spots i place (more_trees y ys) in
          then_read known (map come coming) (come_in place front i (more_trees y ys))
          (come_fresh known coming)
          (just_brought known (all_fresh (map come coming)) coming (come_all coming))
      items_fresh known place i front (more_trees y ys) (more_trees x xs) =
          let above : Place = place ++ item i ∷ [] in
          let pair : List (Mark K) = tree_marks app above y x in
          fresh_join known pair (items_marks app place (i + 1) (front ++ y ∷ []) ys xs)
          (tree_fresh known above y x)
          (items_fresh (known ++ all_fresh pair) place (i + 1) (front ++ y ∷ []) ys xs)
