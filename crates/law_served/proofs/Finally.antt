-- What is written at a mark by what a patch had when it passed it is what is written by what it has in the end.
use Rattle.std.proofs.Common.{ℕ, ◌+◌, true, List, [], ◌∷◌, ◌++◌, ◌≡◌, ◌≢◌, refl, sym, ap, subst, ◌∙◌}
use Rattle.std.specs.Prelude.{Contains, None, false}
use Rattle.rt_model.specs.Caused as caused
use Rattle.rt_model.specs.Caused.{Both, Written}
use Rattle.rt_model.specs.Document.{Forest, InsertNodesAfter}
use Rattle.rt_model.specs.OneLog.{types}
use Rattle.rt_model.specs.Tree.{Types, Tree, Trees, Slot, text_slot, placeholder_slot, component_slot, fragment_slot, no_trees, more_trees, Place, Spot, item, spots, item_spots}
use Rattle.rt_model.specs.View.{items_view}
use Rattle.rt_model.specs.World.{Application}
use Rattle.law_headline.proofs.Settled.{contained}
use Rattle.tree_marks.specs.Marks.{Mark, stays, goes, comes, fed, left, made, given, worded, slot_goes, tree_goes, slot_way, tree_way, come_in, go_out, lone}
use Rattle.tree_marks.specs.Spots.{front_spots, reads}
use Rattle.tree_marks.specs.Writing.{last_among}
use Rattle.tree_mirror.specs.Mirror.{trees_from}
use Rattle.run_places.specs.Places.{side_of}
use Rattle.run_shown.specs.Given.{given_to, rows_under}
use Rattle.run_shown.specs.Pieces.{items_tops}
use Rattle.run_shown.specs.Tops.{tops_of}
use Rattle.run_shown.specs.Unknowns.{is_given, last_in}
use Rattle.run_shown.proofs.TopsSeen.{items_is}
use Rattle.law_patch.specs.Fresh.{reads_fresh}
use Rattle.law_patch.specs.SoFar.{AgreeAt, with_new}
use Rattle.law_patch.proofs.Alike.{items_alike}
use Rattle.law_patch.proofs.Known.{contains_left}
use Rattle.law_patch.proofs.Served.{mark_alike}
use Rattle.rt_tree.specs.declared.patch.Patch.{Patch}
use Rattle.rt_tree.specs.Asks.{asked_at}
use Rattle.rt_tree.specs.Grows.{Grows}
use Rattle.rt_tree.specs.Owns.{last_or, own_writes}
use Rattle.rt_tree.specs.Served.{both_now}
use Rattle.rt_tree.proofs.Knowns.{known_writes, with_old}
use Rattle.rt_tree.proofs.MarkWrites.{last_items}
use Rattle.law_served.specs.RunWritten.{both_end}
use Rattle.law_served.proofs.Rows.{last_known, rows_more}
use Rattle.law_served.proofs.Spots.{row_grown}

-- the spots of items in front are those of these items
front_is : {K : Types} (place : Place) (j : ℕ) (ys : List (Tree K)) → front_spots place j ys ≡ item_spots j place (trees_from ys)
front_is place j [] = refl
front_is {K = K} place j (y ∷ ys) = ap (λ (ss : List (Spot K)). spots (place ++ item j ∷ []) y ++ ss) (front_is place (j + 1) ys)

module _ {K : Types} (app : Application K) (b : Both K) (u v : ℕ → Written) where
  -- what a patch itself writes doesn't hang on what fed child scopes write
  under_free : (m : Mark K) → own_writes app (record b { under = u }) m ≡ own_writes app (record b { under = v }) m
  under_free (stays place k) = refl
  under_free (goes place k) = refl
  under_free (comes place k) = refl
  under_free (fed place c d) = refl
  under_free (left place c) = refl
  under_free (made place d) = refl
  under_free (given above whole new old) = refl
  under_free (worded place new old) = refl
  under_free (slot_goes place old) = refl
  under_free (tree_goes above old) = refl
  under_free (slot_way place new old) = refl
  under_free (tree_way above new old) = refl
  under_free (come_in place front i new) =
      let last = last_items app (record b { under = u }) place 0 0 front ∙ sym (last_items app (record b { under = v }) place 0 0 front) in
      (λ k. InsertNodesAfter (last k) (items_view b.new b.new_child i place new) ∷ [])
  under_free (go_out place i old) = refl
  under_free (lone place (text_slot t)) = refl
  under_free (lone place placeholder_slot) = refl
  under_free (lone place (component_slot c)) = refl
  under_free (lone place (fragment_slot no_trees)) = refl
  under_free (lone place (fragment_slot (more_trees y ys))) = refl

module _ {P C Q V H T E L : Type 0} (app : Application (types C Q V H T E L)) (q r : Patch P C Q V H T E L) (gr : Grows q r) (before after : ℕ → Forest) (under : ℕ → Written)
    (old_rows : (t : ℕ) → is_given r.given t ≡ true → given_to r.given t ≡ before t) (new_rows : (t : ℕ) → is_given r.given t ≡ true → given_to r.given t ≡ after t)
    (some : (t : ℕ) → is_given r.given t ≡ true → tops_of (given_to r.given t) ≢ []) where
  abbrev now_child : ℕ → Forest
  now_child t = given_to q.given t

  -- a row that was given is that of the end
  row_stays : (t : ℕ) → is_given q.given t ≡ true → now_child t ≡ given_to r.given t
  row_stays t h = sym (ap (λ xs. rows_under xs t) gr.given ∙ rows_more (q.given).rows gr.rows t h)

  row_before : (t : ℕ) → is_given q.given t ≡ true → now_child t ≡ before t
  row_before t h = row_stays t h ∙ old_rows t (row_grown q r gr t h)

  pub row_after : (t : ℕ) → is_given q.given t ≡ true → now_child t ≡ after t
  row_after t h = row_stays t h ∙ new_rows t (row_grown q r gr t h)

  some_now : (t : ℕ) → is_given q.given t ≡ true → tops_of (after t) ≢ []
  some_now t h none = some t (row_grown q r gr t h) (ap tops_of (new_rows t (row_grown q r gr t h)) ∙ none)

  -- by the new side as it was, all else as it is in the end
  abbrev then_both : Both (types C Q V H T E L)
  then_both = with_new (both_end r before after under) (side_of q.new.side) now_child

  old_same : (m : Mark (types C Q V H T E L)) → own_writes app (with_old (both_now q) before) m ≡ own_writes app then_both m
  old_same m =
      (
      λ t.
      own_writes app
      (record {
        old = side_of (sym gr.old t);
        new = side_of q.new.side;
        old_child = before;
        new_child = now_child;
        under = λ u. caused.writes [];
        stop = None;
        on_way = λ u. false;
      }) m
      )
      ∙ under_free app then_both (λ u. caused.writes []) under m

  -- the number behind which items come
  last_same : (place : Place) (front : List (Tree (types C Q V H T E L))) → last_in q.given (items_tops (side_of q.new.side) 0 place (trees_from front)) ≡ None
      → ((s : Spot (types C Q V H T E L)) → Contains (front_spots place 0 front) s → AgreeAt (side_of q.new.side) after (side_of r.new.side) after s)
      → last_among app then_both place 0 0 front ≡ last_among app (both_end r before after under) place 0 0 front
  last_same place front asked agree =
      let ts : Trees (types C Q V H T E L) = trees_from front in
      last_items app then_both place 0 0 front
      ∙ ap (λ (ns : List ℕ). last_or 0 ns) (items_is now_child (side_of q.new.side) 0 place ts)
      ∙ last_known q.given now_child after row_after some_now (items_tops (side_of q.new.side) 0 place ts) asked
      ∙ ap (λ (ns : List ℕ). last_or 0 ns) (sym (items_is after (side_of q.new.side) 0 place ts))
      ∙ ap (λ (x : Forest). last_or 0 (tops_of x))
      (items_alike (side_of q.new.side) (side_of r.new.side) after after 0 place ts
      (λ s a. agree s (subst (λ (ss : List (Spot (types C Q V H T E L))). Contains ss s) (sym (front_is place 0 front)) (contained (item_spots 0 place ts) s a))))
      ∙ sym (last_items app (both_end r before after under) place 0 0 front)

  new_same : (m : Mark (types C Q V H T E L)) → asked_at q m ≡ None
      → ((s : Spot (types C Q V H T E L)) → Contains (reads_fresh m) s → AgreeAt (side_of q.new.side) now_child (side_of r.new.side) after s)
      → ((s : Spot (types C Q V H T E L)) → Contains (reads m) s → AgreeAt (side_of q.new.side) after (side_of r.new.side) after s)
      → own_writes app then_both m ≡ own_writes app (both_end r before after under) m
  new_same (stays place k) asked fresh agree = refl
  new_same (goes place k) asked fresh agree = refl
  new_same (comes place k) asked fresh agree = refl
  new_same (fed place c d) asked fresh agree = refl
  new_same (left place c) asked fresh agree = refl
  new_same (made place d) asked fresh agree = refl
  new_same (given above whole new old) asked fresh agree = refl
  new_same (worded place new old) asked fresh agree = refl
  new_same (slot_goes place old) asked fresh agree = refl
  new_same (tree_goes above old) asked fresh agree = refl
  new_same (slot_way place new old) asked fresh agree =
      mark_alike app (both_end r before after under) (side_of q.new.side) now_child (reads_fresh (slot_way place new old)) fresh (slot_way place new old) (λ s a. a)
  new_same (tree_way above new old) asked fresh agree =
      mark_alike app (both_end r before after under) (side_of q.new.side) now_child (reads_fresh (tree_way above new old)) fresh (tree_way above new old) (λ s a. a)
  new_same (come_in place front i new) asked fresh agree =
      let last = last_same place front asked (λ s a. agree s (contains_left (front_spots place 0 front) (item_spots i place new) s a)) in
      let nodes = items_alike (side_of q.new.side) (side_of r.new.side) now_child after i place new (λ s a. fresh s (contained (item_spots i place new) s a)) in
      (λ k. InsertNodesAfter (last k) (nodes k) ∷ [])
  new_same (go_out place i old) asked fresh agree = refl
  new_same (lone place new) asked fresh agree =
      mark_alike app (both_end r before after under) (side_of q.new.side) now_child (reads_fresh (lone place new)) fresh (lone place new) (λ s a. a)

  -- at any mark
  pub mark_final : (m : Mark (types C Q V H T E L)) → asked_at q m ≡ None
      → ((s : Spot (types C Q V H T E L)) → Contains (reads_fresh m) s → AgreeAt (side_of q.new.side) now_child (side_of r.new.side) after s)
      → ((s : Spot (types C Q V H T E L)) → Contains (reads m) s → AgreeAt (side_of q.new.side) after (side_of r.new.side) after s)
      → own_writes app (both_now q) m ≡ own_writes app (both_end r before after under) m
  mark_final m asked fresh agree = known_writes app q before row_before m asked ∙ old_same m ∙ new_same m asked fresh agree
