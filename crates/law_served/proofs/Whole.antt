-- Mark after mark a run writes what is written by what the patch has in the end, and so what the definitions write.
use Rattle.std.proofs.Common.{ℕ, true, List, [], ◌∷◌, ◌++◌, ◌≡◌, ◌≢◌, inl, inr, map, refl, sym, ap, subst, ◌∙◌, append-nil, append_assoc}
use Rattle.std.specs.Prelude.{Contains, Option, None, Some}
use Rattle.rt_model.specs.Caused.{Written, child_written, tree_written}
use Rattle.rt_model.specs.Document.{Edit, Forest}
use Rattle.rt_model.specs.Lists.{joined}
use Rattle.rt_model.specs.OneLog.{types}
use Rattle.rt_model.specs.Run.{child_at}
use Rattle.rt_model.specs.Tree.{Tree, Place, Spot, node_at, component_at}
use Rattle.rt_model.specs.View.{tree_view}
use Rattle.rt_model.specs.World.{Application}
use Rattle.law_moves.specs.Meets.{ChildBrings, TreeMeets, tree_claims}
use Rattle.law_moves.specs.Settings.{Brings}
use Rattle.rt_model.proofs.Among.{Among, among_contained}
use Rattle.tree_marks.specs.Marks.{Mark, stays, goes, comes, fed, left, made, given, worded, slot_goes, tree_goes, slot_way, tree_way, come_in, go_out, lone, tree_marks}
use Rattle.tree_marks.specs.Spots.{all_brought, brings}
use Rattle.tree_marks.specs.Writing.{all_written, mark_writes}
use Rattle.run_places.specs.Places.{side_of}
use Rattle.run_shown.specs.Given.{given_to}
use Rattle.run_shown.specs.Tops.{tops_of}
use Rattle.run_shown.specs.Unknowns.{is_given}
use Rattle.run_work.proofs.Joins.{joined_append}
use Rattle.law_patch.specs.Behind.{ReadBehind}
use Rattle.law_patch.specs.Fresh.{FreshBehind, all_fresh, fresh}
use Rattle.law_patch.specs.SoFar.{AgreeAt}
use Rattle.law_patch.specs.Written.{GoesOn}
use Rattle.law_patch.proofs.Appended.{appended_agrees}
use Rattle.law_patch.proofs.Behind.{tree_behind}
use Rattle.law_patch.proofs.Fresh.{tree_fresh}
use Rattle.law_patch.proofs.Known.{contains_either, contains_left, contains_right}
use Rattle.law_patch.proofs.Written.{tree_brings, tree_writes}
use Rattle.rt_tree.specs.declared.patch.Patch.{Patch}
use Rattle.rt_tree.specs.declared.step.PatchStep.{PatchStep}
use Rattle.rt_tree.specs.Grows.{Grows}
use Rattle.rt_tree.specs.Owns.{own_writes}
use Rattle.rt_tree.specs.Runs.{IsInOrder, Runs}
use Rattle.rt_tree.specs.Served.{both_now, marks_left, writes_now}
use Rattle.rt_tree.proofs.Growing.{AllGrown, runs_grow}
use Rattle.rt_tree.proofs.Quiet.{shown_writes}
use Rattle.rt_tree.proofs.Running.{in_order}
use Rattle.law_served.specs.KnownSpots.{AllNewGiven, Each, KnownAt, KnownBehind, NewGiven, StartsWith}
use Rattle.law_served.specs.RunWritten.{Ends, FreeAt, Shows, Starts, both_end, edits_with}
use Rattle.law_served.proofs.Fed.{fed_at, fed_of, order_with, written_with}
use Rattle.law_served.proofs.Finally.{mark_final, row_after}
use Rattle.law_served.proofs.Passing.{begins, known_run}
use Rattle.law_served.proofs.Spots.{children_given, known_grown, node_known, seat_known}

module _ {P C Q V H T E L : Type 0} (At : Patch P C Q V H T E L → Spot (types C Q V H T E L) → Type 0) (p : Patch P C Q V H T E L) where
  -- of one of some spots
  pub each_among : (ss : List (Spot (types C Q V H T E L))) (s : Spot (types C Q V H T E L)) → Each At p ss → Among ss s → At p s
  each_among [] s h a = absurd a
  each_among (x ∷ ss) s h a = elim a [ inl same ↦ subst (λ (y : Spot (types C Q V H T E L)). At p y) same h.0 | inr later ↦ each_among ss s h.1 later ]

  each_in : (ss : List (Spot (types C Q V H T E L))) (s : Spot (types C Q V H T E L)) → Each At p ss → Contains ss s → At p s
  each_in ss s h a = each_among ss s h (among_contained ss s a)

  -- of the first of some spots
  each_front : (ss ts : List (Spot (types C Q V H T E L))) → Each At p (ss ++ ts) → Each At p ss
  each_front [] ts h = tt
  each_front (x ∷ ss) ts h = (h.0, each_front ss ts h.1)

module _ {C Q V H T E L : Type 0} where
  -- what comes new is brought
  fresh_brings : (m : Mark (types C Q V H T E L)) (s : Spot (types C Q V H T E L)) → Contains (fresh m) s → Contains (brings m) s
  fresh_brings (stays place k) s h = absurd (among_contained [] s h)
  fresh_brings (goes place k) s h = absurd (among_contained [] s h)
  fresh_brings (comes place k) s h = h
  fresh_brings (fed place c d) s h = absurd (among_contained [] s h)
  fresh_brings (left place c) s h = absurd (among_contained [] s h)
  fresh_brings (made place d) s h = h
  fresh_brings (given above whole new old) s h = absurd (among_contained [] s h)
  fresh_brings (worded place new old) s h = absurd (among_contained [] s h)
  fresh_brings (slot_goes place old) s h = absurd (among_contained [] s h)
  fresh_brings (tree_goes above old) s h = absurd (among_contained [] s h)
  fresh_brings (slot_way place new old) s h = absurd (among_contained [] s h)
  fresh_brings (tree_way above new old) s h = absurd (among_contained [] s h)
  fresh_brings (come_in place front i new) s h = absurd (among_contained [] s h)
  fresh_brings (go_out place i old) s h = absurd (among_contained [] s h)
  fresh_brings (lone place new) s h = absurd (among_contained [] s h)

  fresh_brought : (ms : List (Mark (types C Q V H T E L))) (s : Spot (types C Q V H T E L)) → Contains (all_fresh ms) s → Contains (all_brought ms) s
  fresh_brought [] s h = absurd (among_contained [] s h)
  fresh_brought (m ∷ ms) s h =
      elim (contains_either (fresh m) (all_fresh ms) s h) [
        | inl here ↦ contains_left (brings m) (all_brought ms) s (fresh_brings m s here)
        | inr later ↦ contains_right (brings m) (all_brought ms) s (fresh_brought ms s later)
      ]

  -- one mark more
  more_of : (of : Mark (types C Q V H T E L) → List (Spot (types C Q V H T E L))) (front : List (Mark (types C Q V H T E L))) (m : Mark (types C Q V H T E L))
      → joined (map of (front ++ m ∷ [])) ≡ joined (map of front) ++ of m
  more_of of front m = joined_append of front (m ∷ []) ∙ ap (λ (zs : List (Spot (types C Q V H T E L))). joined (map of front) ++ zs) (append-nil (of m))

module _ {P C Q V H T E L : Type 0} (app : Application (types C Q V H T E L)) (r : Patch P C Q V H T E L) (before after : ℕ → Forest) (under : ℕ → Written) where
  -- a fed child scope writes its own
  fed_writes : (place : Place) (o : Option ℕ) → (child_written app (both_end r before after under) place o).edits ≡ fed_of under o
  fed_writes place None = refl
  fed_writes place (Some t) = refl

  own_is : (m : Mark (types C Q V H T E L)) → own_writes app (both_end r before after under) m ++ fed_at under (side_of r.old).children m ≡ mark_writes app (both_end r before after under) m
  own_is (stays place k) = refl
  own_is (goes place k) = refl
  own_is (comes place k) = refl
  own_is (fed place c d) = sym (fed_writes place (child_at (side_of r.old).children place))
  own_is (left place c) = refl
  own_is (made place d) = refl
  own_is (given above whole new old) = append-nil (mark_writes app (both_end r before after under) (given above whole new old))
  own_is (worded place new old) = append-nil (mark_writes app (both_end r before after under) (worded place new old))
  own_is (slot_goes place old) = refl
  own_is (tree_goes above old) = refl
  own_is (slot_way place new old) = append-nil (mark_writes app (both_end r before after under) (slot_way place new old))
  own_is (tree_way above new old) = append-nil (mark_writes app (both_end r before after under) (tree_way above new old))
  own_is (come_in place front i new) = append-nil (mark_writes app (both_end r before after under) (come_in place front i new))
  own_is (go_out place i old) = append-nil (mark_writes app (both_end r before after under) (go_out place i old))
  own_is (lone place new) = append-nil (mark_writes app (both_end r before after under) (lone place new))

module _ {P C Q V H T E L : Type 0} (app : Application (types C Q V H T E L)) (p r : Patch P C Q V H T E L) (grown : Grows p r) (is_shown : p.shown ≡ true) (before after : ℕ → Forest)
    (under : ℕ → Written) (shows : Shows r before after under) (some : (t : ℕ) → is_given r.given t ≡ true → tops_of (given_to r.given t) ≢ []) where
  module _ (q : Patch P C Q V H T E L) (gr : Grows q r) (front : List (Mark (types C Q V H T E L))) (known : Each (λ x s. KnownAt x s) q (all_brought front)) (there : NewGiven p q)
      (apart : Each (λ x s. FreeAt x s) p (all_fresh front)) where
    -- what was brought is known, and so are the rows of what came new
    brought_agrees : (s : Spot (types C Q V H T E L)) → Contains (all_brought front) s → AgreeAt (side_of q.new.side) after (side_of r.new.side) after s
    brought_agrees (node_at place k) a =
        appended_agrees (side_of q.new.side) (side_of r.new.side) after after gr.numbers gr.children (node_at place k) gr.drawn gr.made
        (each_in (λ x s. KnownAt x s) q (all_brought front) (node_at place k) known a)
    brought_agrees (component_at place c) a =
        let child = each_in (λ x s. KnownAt x s) q (all_brought front) (component_at place c) known a in
        appended_agrees (side_of q.new.side) (side_of r.new.side) after after gr.numbers gr.children (component_at place c) gr.drawn gr.made (child.0, child.1, refl)

    fresh_agrees : (s : Spot (types C Q V H T E L)) → Contains (all_fresh front) s → AgreeAt (side_of q.new.side) (λ t. given_to q.given t) (side_of r.new.side) after s
    fresh_agrees (node_at place k) a =
        appended_agrees (side_of q.new.side) (side_of r.new.side) (λ t. given_to q.given t) after gr.numbers gr.children (node_at place k) gr.drawn gr.made
        (each_in (λ x s. KnownAt x s) q (all_brought front) (node_at place k) known (fresh_brought front (node_at place k) a))
    fresh_agrees (component_at place c) a =
        let child = each_in (λ x s. KnownAt x s) q (all_brought front) (component_at place c) known (fresh_brought front (component_at place c) a) in
        let free : child_at (side_of p.new.side).children place ≡ None = each_in (λ x s. FreeAt x s) p (all_fresh front) (component_at place c) apart a in
        appended_agrees (side_of q.new.side) (side_of r.new.side) (λ t. given_to q.given t) after gr.numbers gr.children (component_at place c) gr.drawn gr.made
        (child.0, child.1, row_after app q r gr before after under shows.old shows.new some child.0 (there place child.0 free child.1))

  -- each mark writes what it writes by the end
  all_final : (front : List (Mark (types C Q V H T E L))) (met : List (Mark (types C Q V H T E L) × Patch P C Q V H T E L)) → AllGrown met r
      → KnownBehind (λ x s. KnownAt x s) (λ m. brings m) front met → AllNewGiven p met
      → FreshBehind (all_fresh front) (map (λ x. x.0) met) → ReadBehind (all_brought front) (map (λ x. x.0) met)
      → Each (λ x s. FreeAt x s) p (all_fresh (front ++ map (λ x. x.0) met))
      → joined (map (λ x. written_with app under x.1 x.0) met) ≡ all_written app (both_end r before after under) (map (λ x. x.0) met)
  all_final front [] gr known there came read apart = refl
  all_final front (x ∷ met) gr known there came read apart =
      let m : Mark (types C Q V H T E L) = x.0 in
      let q : Patch P C Q V H T E L = x.1 in
      let behind : List (Mark (types C Q V H T E L)) = map (λ y. y.0) met in
      let on : q.shown ≡ true = sym gr.0.shown ∙ grown.shown ∙ is_shown in
      let apart_front : Each (λ y s. FreeAt y s) p (all_fresh front) =
      each_front (λ y s. FreeAt y s) p (all_fresh front) (all_fresh (m ∷ behind))
      (subst (λ (ss : List (Spot (types C Q V H T E L))). Each (λ y s. FreeAt y s) p ss) (joined_append (λ n. fresh n) front (m ∷ behind)) apart) in
      let own : writes_now app q m ≡ own_writes app (both_end r before after under) m =
      shown_writes app q m on
      ∙ mark_final app q r gr.0 before after under shows.old shows.new some m (gr.1 on)
      (λ s a. fresh_agrees q gr.0 front known.0 there.0 apart_front s (came.0 s a))
      (λ s a. brought_agrees q gr.0 front known.0 there.0 apart_front s (read.0 s a)) in
      let here : written_with app under q m ≡ mark_writes app (both_end r before after under) m =
      (λ k. own k ++ fed_at under (side_of (sym gr.0.old k)).children m) ∙ own_is app r before after under m in
      let later = all_final (front ++ m ∷ []) met gr.2 known.1 there.1
      (subst (λ (ss : List (Spot (types C Q V H T E L))). FreshBehind ss behind) (sym (more_of (λ n. fresh n) front m)) came.1)
      (subst (λ (ss : List (Spot (types C Q V H T E L))). ReadBehind ss behind) (sym (more_of (λ n. brings n) front m)) read.1)
      (subst (λ (ms : List (Mark (types C Q V H T E L))). Each (λ y s. FreeAt y s) p (all_fresh ms)) (sym (append_assoc front (m ∷ []) behind)) apart) in
      (λ k. here k ++ later k)

module _ {P C Q V H T E L : Type 0} (app : Application (types C Q V H T E L)) where
  -- no place is refused
  goes_on : (r : Patch P C Q V H T E L) (before after : ℕ → Forest) (under : ℕ → Written) → Shows r before after under → GoesOn (both_end r before after under)
  goes_on r before after under shows = record { place = refl; child = shows.goes_on }

  -- what was written at all marks is what the definitions write at them
  all_marks : (p r : Patch P C Q V H T E L) (ss : List (PatchStep P C Q V H T E L)) (met : List (Mark (types C Q V H T E L) × Patch P C Q V H T E L)) (new old : Tree (types C Q V H T E L))
      (before after : ℕ → Forest) (under : ℕ → Written) → Runs app p ss met r → Starts app p new old → Ends r → Shows r before after under
      → edits_with under ss ≡ all_written app (both_end r before after under) (tree_marks app [] new old)
  all_marks p r ss met new old before after under run start end shows =
      let order : IsInOrder app p ss met r = in_order app p r ss met run in
      let ms : List (Mark (types C Q V H T E L)) = map (λ x. x.0) met in
      let all : marks_left p ≡ ms = order.marks ∙ ap (λ (ns : List (Mark (types C Q V H T E L))). ms ++ ns) end.marks ∙ append-nil ms in
      let trees : tree_marks app [] new old ≡ ms = sym start.marks ∙ all in
      let grows : Grows p r × AllGrown met r = runs_grow app p r ss met run in
      let known : KnownBehind (λ x s. KnownAt x s) (λ m. brings m) [] met =
      known_run (λ x s. KnownAt x s) (λ m. brings m) known_grown node_known seat_known app [] p r ss met run
      (begins (λ x s. KnownAt x s) (λ m. brings m) known_grown node_known seat_known p.phase p start.free)
      (subst (λ (ns : List (Mark (types C Q V H T E L))). StartsWith (λ x s. KnownAt x s) (λ m. brings m) p ns) all start.known) in
      let final =
      all_final app p r grows.0 start.shown before after under shows end.some [] met grows.1 known (children_given app p r ss met run)
      (subst (λ (ns : List (Mark (types C Q V H T E L))). FreshBehind [] ns) trees (tree_fresh app [] [] new old))
      (subst (λ (ns : List (Mark (types C Q V H T E L))). ReadBehind [] ns) trees (tree_behind app [] [] new old))
      (subst (λ (ns : List (Mark (types C Q V H T E L))). Each (λ x s. FreeAt x s) p (all_fresh ns)) all start.apart) in
      sym (append-nil (edits_with under ss))
      ∙ ap (λ (zs : List Edit). edits_with under ss ++ zs) (sym end.edits)
      ∙ sym (order_with app under p r ss met run)
      ∙ ap (λ (zs : List Edit). zs ++ joined (map (λ x. written_with app under x.1 x.0) met)) start.none
      ∙ final
      ∙ ap (λ (ns : List (Mark (types C Q V H T E L))). all_written app (both_end r before after under) ns) (sym trees)

  pub run_is_written : (p r : Patch P C Q V H T E L) (ss : List (PatchStep P C Q V H T E L)) (met : List (Mark (types C Q V H T E L) × Patch P C Q V H T E L)) (new old : Tree (types C Q V H T E L))
      (before after : ℕ → Forest) (under : ℕ → Written) → Runs app p ss met r → Starts app p new old → Ends r → Shows r before after under
      → edits_with under ss ≡ (tree_written app (both_end r before after under) [] new old).edits
  run_is_written p r ss met new old before after under run start end shows =
      all_marks p r ss met new old before after under run start end shows
      ∙ sym (ap (λ (w : Written). w.edits) (tree_writes app (both_end r before after under) (goes_on r before after under shows) [] new old))

  pub run_brings : (p r : Patch P C Q V H T E L) (ss : List (PatchStep P C Q V H T E L)) (met : List (Mark (types C Q V H T E L) × Patch P C Q V H T E L)) (new old : Tree (types C Q V H T E L))
      (before after : ℕ → Forest) (under : ℕ → Written) (claims : ℕ → ℕ → ℕ) → Runs app p ss met r → Starts app p new old → Ends r → Shows r before after under
      → TreeMeets app (both_end r before after under) (λ t. ChildBrings (both_end r before after under) claims t) [] new old
      → Brings (edits_with under ss) (tree_view (side_of r.old) before [] old) (tree_view (side_of r.new.side) after [] new)
      (λ n. tree_claims app (both_end r before after under) claims n [] new old)
  run_brings p r ss met new old before after under claims run start end shows meets =
      subst
      (λ (es : List Edit). Brings es (tree_view (side_of r.old) before [] old) (tree_view (side_of r.new.side) after [] new)
      (λ n. tree_claims app (both_end r before after under) claims n [] new old))
      (sym (all_marks p r ss met new old before after under run start end shows))
      (tree_brings app (both_end r before after under) (goes_on r before after under shows) claims [] new old meets)
