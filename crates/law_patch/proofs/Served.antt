-- A mark is written alike by what is known when it comes and by what stands in the end, so a patch can be served mark by mark.
use Rattle.std.proofs.Common.{ℕ, ◌+◌, List, [], ◌∷◌, ◌++◌, ◌≡◌, refl, sym, ap, subst, ◌∙◌, append-nil}
use Rattle.std.specs.Prelude.{Contains}
use Rattle.rt_model.specs.Tree.{Types, Tree, Slot, text_slot, placeholder_slot, component_slot, fragment_slot, no_trees, more_trees, item, Place, Spot, spots, slot_spots, item_spots}
use Rattle.rt_model.specs.World.{Application}
use Rattle.rt_model.specs.State.{Side}
use Rattle.rt_model.specs.Document.{Forest, Edit, InsertNodesAfter}
use Rattle.rt_model.specs.View.{tree_view, slot_view}
use Rattle.rt_model.specs.Caused.{Both, Written, tree_written, built_whole, replaced_by, last_of}
use Rattle.law_headline.proofs.Settled.{contained}
use Rattle.tree_marks.specs.Marks.{Mark, stays, goes, comes, fed, left, made, given, worded, slot_goes, tree_goes, slot_way, tree_way, come_in, go_out, lone, tree_marks}
use Rattle.tree_marks.specs.Spots.{brings, all_brought, front_spots, reads}
use Rattle.tree_marks.specs.Writing.{last_among, mark_writes, all_written}
use Rattle.law_patch.specs.Written.{GoesOn}
use Rattle.law_patch.specs.Behind.{AllKnown, ReadBehind}
use Rattle.law_patch.specs.SoFar.{AgreeAt, SoFar, on_the_way, with_new}
use Rattle.run_work.proofs.Joins.{joined_append}
use Rattle.law_patch.proofs.Written.{tree_writes}
use Rattle.law_patch.proofs.Behind.{tree_behind}
use Rattle.law_patch.proofs.Alike.{AllAgree, front_agree, back_agree, tree_alike, slot_alike, items_alike}

module _ {K : Types} (app : Application K) (b : Both K) (side : Side K) (inner : ℕ → Forest) where
  abbrev now : Both K
  now = with_new b side inner

  last_alike : (place : Place) (j last : ℕ) (front : List (Tree K)) → AllAgree side b.new inner b.new_child (front_spots place j front) → last_among app now place j last front ≡ last_among app b place j last front
  last_alike place j last [] all = refl
  last_alike place j last (y ∷ ys) all =
      let here : List (Spot K) = spots (place ++ item j ∷ []) y in
      let later : List (Spot K) = front_spots place (j + 1) ys in
      ap (λ (x : Forest). last_among app now place (j + 1) (last_of last x) ys)
      (tree_alike side b.new inner b.new_child (place ++ item j ∷ []) y (front_agree side b.new inner b.new_child here later all))
      ∙ last_alike place (j + 1) (last_of last (tree_view b.new b.new_child (place ++ item j ∷ []) y)) ys (back_agree side b.new inner b.new_child here later all)

  -- what a slot writes beside a placeholder, by what it shows
  abbrev in_place_of : Place → Forest → List Edit
  in_place_of place x = (built_whole b.stop place (replaced_by (slot_view b.old b.old_child placeholder_slot place) x)).edits

  lone_alike : (place : Place) (v : Slot K) → AllAgree side b.new inner b.new_child (slot_spots v place) → mark_writes app now (lone place v) ≡ mark_writes app b (lone place v)
  lone_alike place (text_slot t) all =
      ap (λ (x : Forest). in_place_of place x) (slot_alike side b.new inner b.new_child (text_slot t) place all)
  lone_alike place placeholder_slot all = refl
  lone_alike place (component_slot c) all =
      ap (λ (x : Forest). in_place_of place x) (slot_alike side b.new inner b.new_child (component_slot c) place all)
  lone_alike place (fragment_slot no_trees) all =
      ap (λ (x : Forest). in_place_of place x) (slot_alike side b.new inner b.new_child (fragment_slot no_trees) place all)
  lone_alike place (fragment_slot (more_trees y ys)) all =
      ap (λ (x : Forest). in_place_of place x) (slot_alike side b.new inner b.new_child (fragment_slot (more_trees y ys)) place all)

  module _ (known : List (Spot K)) (agree : (s : Spot K) → Contains known s → AgreeAt side inner b.new b.new_child s) where
    -- of spots that are known
    known_agree : (ss : List (Spot K)) → AllKnown known ss → AllAgree side b.new inner b.new_child ss
    known_agree ss all s a = agree s (all s (contained ss s a))

    pub mark_alike : (m : Mark K) → AllKnown known (reads m) → mark_writes app now m ≡ mark_writes app b m
    mark_alike (stays p k) all = refl
    mark_alike (goes p k) all = refl
    mark_alike (comes p k) all = refl
    mark_alike (fed p c d) all = refl
    mark_alike (left p c) all = refl
    mark_alike (made p d) all = refl
    mark_alike (given above whole new old) all = refl
    mark_alike (worded place new old) all = refl
    mark_alike (slot_goes place old) all = refl
    mark_alike (tree_goes above old) all = refl
    mark_alike (slot_way place new old) all =
        ap (λ (x : Forest). replaced_by (slot_view b.old b.old_child old place) x)
        (slot_alike side b.new inner b.new_child new place (known_agree (slot_spots new place) all))
    mark_alike (tree_way above new old) all =
        ap (λ (x : Forest). replaced_by (tree_view b.old b.old_child above old) x)
        (tree_alike side b.new inner b.new_child above new (known_agree (spots above new) all))
    mark_alike (come_in place front i new) all =
        let here : List (Spot K) = front_spots place 0 front in
        let later : List (Spot K) = item_spots i place new in
        let both : AllAgree side b.new inner b.new_child (here ++ later) = known_agree (here ++ later) all in
        let last = last_alike place 0 0 front (front_agree side b.new inner b.new_child here later both) in
        let nodes = items_alike side b.new inner b.new_child i place new (back_agree side b.new inner b.new_child here later both) in
        (λ k. InsertNodesAfter (last k) (nodes k) ∷ [])
    mark_alike (go_out place i old) all = refl
    mark_alike (lone place new) all = lone_alike place new (known_agree (slot_spots new place) all)

module _ {K : Types} (app : Application K) (b : Both K) (so_far : SoFar K) (agree : (front : List (Mark K)) (s : Spot K) → Contains (all_brought front) s → AgreeAt (so_far front).0 (so_far front).1 b.new b.new_child s) where
  served : (front ms : List (Mark K)) → ReadBehind (all_brought front) ms → on_the_way app b so_far front ms ≡ all_written app b ms
  served front [] h = refl
  served front (m ∷ ms) h =
      let more : all_brought (front ++ m ∷ []) ≡ all_brought front ++ brings m =
      joined_append brings front (m ∷ []) ∙ ap (λ (zs : List (Spot K)). all_brought front ++ zs) (append-nil (brings m)) in
      let here = mark_alike app b (so_far front).0 (so_far front).1 (all_brought front) (agree front) m h.0 in
      let later = served (front ++ m ∷ []) ms (subst (λ (ks : List (Spot K)). ReadBehind ks ms) (sym more) h.1) in
      (λ k. here k ++ later k)

  pub served_is_written : GoesOn b → (above : Place) (new old : Tree K) → on_the_way app b so_far [] (tree_marks app above new old) ≡ (tree_written app b above new old).edits
  served_is_written on above new old =
      served [] (tree_marks app above new old) (tree_behind app [] above new old)
      ∙ sym (ap (λ (w : Written). w.edits) (tree_writes app b on above new old))
