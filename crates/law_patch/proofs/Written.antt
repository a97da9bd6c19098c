-- What is written at the marks of two trees is what the definitions write of them.
use Rattle.std.proofs.Common.{ℕ, zero, suc, ◌+◌, Bool, false, List, [], ◌∷◌, ◌++◌, ◌≡◌, length, map, refl, sym, ap, subst, ◌∙◌, append-nil, length-append, arith}
use Rattle.std.specs.Prelude.{Option, Some, None}
use Rattle.rt_model.specs.Lists.{same_numbers}
use Rattle.rt_model.specs.Tree.{Types, TemplateNodes, no_nodes, element_node, text_node, slot_node, Template, same_template, Tree, block, Slots, no_slots, more_slots, Slot, text_slot, placeholder_slot, component_slot, fragment_slot, Trees, no_trees, more_trees, item, Place, Spot, node_at, component_at, place_in, spots, slots_spots, slot_spots, item_spots}
use Rattle.rt_model.specs.World.{Application}
use Rattle.rt_model.specs.Values.{is_same_component}
use Rattle.rt_model.specs.Run.{child_at}
use Rattle.rt_model.specs.Document.{Edit, InsertNodesAfter}
use Rattle.rt_model.specs.View.{tree_view, slot_view, items_view}
use Rattle.rt_model.specs.Caused.{Both, Written, writes, halts, then_on, replaced_by, last_of, any_around, attributes_written, slot_pass, child_written, tree_written, slots_written, slot_written, items_written}
use Rattle.rt_model.proofs.Maps.{by_test, pick_false}
use Rattle.law_moves.specs.Settings.{Brings}
use Rattle.law_moves.specs.Meets.{ChildBrings, TreeMeets, tree_claims}
use Rattle.law_headline.proofs.Sweep.{tree_performs, whole_built, child_goes}
use Rattle.tree_marks.specs.Marks.{Mark, stays, slot_way, tree_way, come_in, go_out, lone, gone, come, changed, template_marks, tree_marks, slots_marks, slot_marks, items_marks}
use Rattle.tree_marks.specs.Writing.{last_among, mark_writes, all_written}
use Rattle.law_patch.specs.Written.{GoesOn}
use Rattle.run_work.proofs.Joins.{joined_append}

-- what didn't stop is its edits
all_of : (w : Written) → w.stopped ≡ false → w ≡ writes w.edits
all_of w h = ap (λ (s : Bool). record { edits = w.edits; stopped = s }) h

-- what is equal to edits is its own
its_own : {w : Written} {es : List Edit} → w ≡ writes es → w ≡ writes w.edits
its_own {w = w} {es = es} p = p ∙ ap (λ (xs : List Edit). writes xs) (sym (ap (λ (u : Written). u.edits) p))

module _ {K : Types} (app : Application K) where
  none_holds : (place : Place) (i : ℕ) (stop : Option Place) (ts : Trees K) → stop ≡ None → any_around app place i stop ts ≡ false
  none_holds place i (Some p) ts h = cc
  none_holds place i None no_trees h = refl
  none_holds place i None (more_trees t ts) h = none_holds place (i + 1) None ts h

module _ {K : Types} (app : Application K) (b : Both K) (on : GoesOn b) where
  abbrev all : List (Mark K) → List Edit
  all ms = all_written app b ms

  written_join : (ms ns : List (Mark K)) → all (ms ++ ns) ≡ all ms ++ all ns
  written_join ms ns = joined_append (mark_writes app b) ms ns

  -- what goes and what comes writes nothing by itself
  gone_silent : (ss : List (Spot K)) (ms : List (Mark K)) → all (map gone ss ++ ms) ≡ all ms
  gone_silent [] ms = refl
  gone_silent (node_at p k ∷ ss) ms = gone_silent ss ms
  gone_silent (component_at p c ∷ ss) ms = gone_silent ss ms

  come_silent : (ss : List (Spot K)) (ms : List (Mark K)) → all (map come ss ++ ms) ≡ all ms
  come_silent [] ms = refl
  come_silent (node_at p k ∷ ss) ms = come_silent ss ms
  come_silent (component_at p c ∷ ss) ms = come_silent ss ms

  changed_silent : (ss us : List (Spot K)) (ms : List (Mark K)) → all (changed ss us ++ ms) ≡ all ms
  changed_silent [] us ms = come_silent us ms
  changed_silent (node_at p k ∷ ss) us ms = changed_silent ss us ms
  changed_silent (component_at p c ∷ ss) us ms = changed_silent ss us ms

  gone_nothing : (ss : List (Spot K)) → all (map gone ss) ≡ []
  gone_nothing [] = refl
  gone_nothing (node_at p k ∷ ss) = gone_nothing ss
  gone_nothing (component_at p c ∷ ss) = gone_nothing ss

  -- one part and then another one
  two : {a c : Written} (ms ns : List (Mark K)) → a ≡ writes (all ms) → c ≡ writes (all ns) → then_on a c ≡ writes (all (ms ++ ns))
  two {a = a} {c = c} ms ns p q =
      ap (λ (w : Written). then_on w c) p
      ∙ ap (λ (w : Written). then_on (writes (all ms)) w) q
      ∙ ap (λ (es : List Edit). writes es) (sym (written_join ms ns))

  -- edits, and then one mark that writes them
  one_mark : {es : List Edit} {xs : List Edit} → xs ≡ es ++ [] → writes es ≡ writes xs
  one_mark {es = es} p = ap (λ (zs : List Edit). writes zs) (sym (append-nil es) ∙ sym p)

  -- the number of the last node goes on with one more item
  last_more : (place : Place) (j last : ℕ) (front : List (Tree K)) (y : Tree K) (i : ℕ)
      → i ≡ j + length front
      → last_of (last_among app b place j last front) (tree_view b.new b.new_child (place ++ item i ∷ []) y) ≡ last_among app b place j last (front ++ y ∷ [])
  last_more place j last [] y i h =
      ap (λ (n : ℕ). last_of last (tree_view b.new b.new_child (place ++ item n ∷ []) y)) (omega (arith, h))
  last_more place j last (x ∷ front) y i h =
      last_more place (j + 1) (last_of last (tree_view b.new b.new_child (place ++ item j ∷ []) x)) front y i (omega (arith, h))

  template_writes : (whole : Template) (above : Place) (of : ℕ → Place → Written) (ms : ℕ → Place → List (Mark K))
      → ((k : ℕ) (place : Place) → of k place ≡ writes (all (ms k place)))
      → (up : List ℕ) (i : ℕ) (nodes : TemplateNodes)
      → slot_pass of (place_in whole above) up i nodes ≡ writes (all (template_marks (λ p k. stays p k) whole above ms up i nodes))
  template_writes whole above of ms h up i no_nodes = refl
  template_writes whole above of ms h up i (element_node tag namespace attributes children rest) =
      two
      (template_marks (λ p k. stays p k) whole above ms (up ++ i ∷ []) 0 children)
      (template_marks (λ p k. stays p k) whole above ms up (i + 1) rest)
      (template_writes whole above of ms h (up ++ i ∷ []) 0 children)
      (template_writes whole above of ms h up (i + 1) rest)
  template_writes whole above of ms h up i (text_node text rest) = template_writes whole above of ms h up (i + 1) rest
  template_writes whole above of ms h up i (slot_node k rest) =
      two
      (ms k (place_in whole above up i))
      (template_marks (λ p k. stays p k) whole above ms up (i + 1) rest)
      (h k (place_in whole above up i))
      (template_writes whole above of ms h up (i + 1) rest)

  child_writes : (place : Place) (o : Option ℕ) → (child_written app b place o).stopped ≡ false
  child_writes place None = refl
  child_writes place (Some t) =
      ap (λ (w : Written). w.stopped) (child_goes b.stop place (b.on_way t) (b.under t) on.place) ∙ on.child t

  mutual
    pub tree_writes : (above : Place) (y x : Tree K) → tree_written app b above y x ≡ writes (all (tree_marks app above y x))
    tree_writes above (block template new slots) (block other old olds) =
        by_test (same_template template other)
        (λ e.
        rw e
        (ap (λ (w : Written). then_on (writes (attributes_written b.old.numbers above template new old)) w)
        (template_writes template above (λ k place. slots_written app b slots olds k place) (λ k place. slots_marks app slots olds k place)
        (λ k place. slots_writes slots olds k place) [] 0 template.roots)))
        (λ e.
        rw e
        (whole_built b.stop above (replaced_by (tree_view b.old b.old_child above (block other old olds)) (tree_view b.new b.new_child above (block template new slots))) on.place
        ∙ one_mark
        (changed_silent (spots above (block other old olds)) (spots above (block template new slots))
        (tree_way above (block template new slots) (block other old olds) ∷ []))))

    slots_writes : (ys xs : Slots K) (k : ℕ) (place : Place) → slots_written app b ys xs k place ≡ writes (all (slots_marks app ys xs k place))
    slots_writes no_slots no_slots k place = refl
    slots_writes no_slots (more_slots u others) k place =
        ap (λ (es : List Edit). writes es) (sym (gone_nothing (slots_spots (more_slots u others) k place)))
    slots_writes (more_slots v rest) no_slots zero place =
        its_own (slot_writes place v placeholder_slot) ∙ one_mark (come_silent (slot_spots v place) (lone place v ∷ []))
    slots_writes (more_slots v rest) no_slots (suc k) place = slots_writes rest no_slots k place
    slots_writes (more_slots v rest) (more_slots u others) zero place = slot_writes place v u
    slots_writes (more_slots v rest) (more_slots u others) (suc k) place = slots_writes rest others k place

    slot_writes : (place : Place) (y x : Slot K) → slot_written app b place y x ≡ writes (all (slot_marks app place y x))
    slot_writes place (text_slot t) (text_slot u) =
        by_test (same_numbers u t) (λ e. rw e refl) (λ e. rw e refl)
    slot_writes place placeholder_slot placeholder_slot = refl
    slot_writes place (component_slot c) (component_slot d) =
        by_test (is_same_component app d c)
        (λ e.
        rw e
        (all_of (child_written app b place (child_at b.old.children place)) (child_writes place (child_at b.old.children place)) ∙ one_mark refl))
        (λ e.
        rw e
        (whole_built b.stop place (replaced_by (slot_view b.old b.old_child (component_slot d) place) (slot_view b.new b.new_child (component_slot c) place)) on.place
        ∙ one_mark refl))
    slot_writes place (fragment_slot no_trees) (fragment_slot no_trees) = refl
    slot_writes place (fragment_slot (more_trees y ys)) (fragment_slot (more_trees x xs)) =
        items_writes place 0 0 [] (more_trees y ys) (more_trees x xs) refl refl
    slot_writes place y x =
        whole_built b.stop place (replaced_by (slot_view b.old b.old_child x place) (slot_view b.new b.new_child y place)) on.place
        ∙ one_mark (changed_silent (slot_spots x place) (slot_spots y place) (slot_way place y x ∷ []))

    items_writes : (place : Place) (i last : ℕ) (front : List (Tree K)) (ys xs : Trees K) → i ≡ length front → last ≡ last_among app b place 0 0 front
        → items_written app b place i last ys xs ≡ writes (all (items_marks app place i front ys xs))
    items_writes place i last front no_trees no_trees p q = refl
    items_writes place i last front no_trees (more_trees x xs) p q =
        one_mark (gone_silent (item_spots i place (more_trees x xs)) (go_out place i (more_trees x xs) ∷ []))
    items_writes place i last front (more_trees y ys) no_trees p q =
        pick_false halts (writes (InsertNodesAfter last (items_view b.new b.new_child i place (more_trees y ys)) ∷ [])) (none_holds app place i b.stop (more_trees y ys) on.place)
        ∙ ap (λ (m : ℕ). writes (InsertNodesAfter m (items_view b.new b.new_child i place (more_trees y ys)) ∷ [])) q
        ∙ one_mark (come_silent (item_spots i place (more_trees y ys)) (come_in place front i (more_trees y ys) ∷ []))
    items_writes place i last front (more_trees y ys) (more_trees x xs) p q =
        let made = tree_view b.new b.new_child (place ++ item i ∷ []) y in
        two
        (tree_marks app (place ++ item i ∷ []) y x)
        (items_marks app place (i + 1) (front ++ y ∷ []) ys xs)
        (tree_writes (place ++ item i ∷ []) y x)
        (items_writes place (i + 1) (last_of last made) (front ++ y ∷ []) ys xs
        (omega (arith, p, length-append front (y ∷ [])))
        (ap (λ (m : ℕ). last_of m made) q ∙ last_more place 0 0 front y i (omega (arith, p))))

  -- so they make the new tree's document of the old one's
  pub tree_brings : (claims : ℕ → ℕ → ℕ) (above : Place) (y x : Tree K) → TreeMeets app b (λ t. ChildBrings b claims t) above y x
      → Brings (all (tree_marks app above y x)) (tree_view b.old b.old_child above x) (tree_view b.new b.new_child above y) (λ n. tree_claims app b claims n above y x)
  tree_brings claims above y x meets =
      subst
      (λ (w : Written). Brings w.edits (tree_view b.old b.old_child above x) (tree_view b.new b.new_child above y) (λ n. tree_claims app b claims n above y x))
      (tree_writes above y x)
      (tree_performs app b (λ t. ChildBrings b claims t) claims (λ t h. h) on.place above y x meets).brings
