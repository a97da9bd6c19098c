-- Both blocks of a patch meet: what both trees have keeps its number, and what is fed its child scope.
use Rattle.std.proofs.Common.{ℕ, true, ◌&&◌, List, [], ◌∷◌, ◌≡◌, refl, sym, ap, subst, ◌∙◌}
use Rattle.std.specs.Prelude.{Option, Some}
use Rattle.std.proofs.lemmas.Bool.{true≢false}
use Rattle.tree_nodes.specs.declared.vnode.VNode.{VNode}
use Rattle.rt_model.specs.Caused.{Written}
use Rattle.rt_model.specs.Document.{Forest, Empty}
use Rattle.rt_model.specs.Fits.{fits_at}
use Rattle.rt_model.specs.Heard.{number_at}
use Rattle.rt_model.specs.OneLog.{types}
use Rattle.rt_model.specs.Run.{child_at, component_in, has_node, is_fed, kept_children, kept_numbers, spots_of}
use Rattle.rt_model.specs.State as state
use Rattle.rt_model.specs.Tree.{Types, Place, same_place, Kind, same_kind, Tree, VComponent, Spot, node_at, spots}
use Rattle.rt_model.specs.View.{child_view, tree_view}
use Rattle.rt_model.specs.World.{Application}
use Rattle.rt_model.proofs.Agendas.{found_node}
use Rattle.rt_model.proofs.Conjunctions.{and-left, and-right}
use Rattle.rt_model.proofs.Maps.{by_test, pick_false, pick_true}
use Rattle.rt_model.proofs.Places.{spots_distinct}
use Rattle.rt_model.proofs.SamePlaces.{same_kind-true, same_place-true}
use Rattle.law_moves.specs.Meets.{ChildBrings, ChildMeets, HasNode, TreeMeets, tree_claims}
use Rattle.law_moves.specs.Settings.{Brings}
use Rattle.law_headline.proofs.Elements.{fitting_bring}
use Rattle.law_headline.proofs.Meets.{tree_meets}
use Rattle.law_headline.proofs.Nodes.{Rows}
use Rattle.tree_marks.specs.Marks.{Mark, tree_marks}
use Rattle.tree_marks.specs.Spots.{brings}
use Rattle.tree_mirror.specs.Sealed.{tree_of}
use Rattle.run_places.specs.declared.side.Side.{Side}
use Rattle.run_places.specs.Places.{side_of}
use Rattle.run_work.proofs.Agreed.{component-found}
use Rattle.law_patch.specs.Appended.{is_numbered}
use Rattle.law_patch.specs.Fresh.{all_fresh}
use Rattle.law_patch.proofs.Appended.{appended_agrees}
use Rattle.rt_tree.specs.declared.patch.Patch.{Patch}
use Rattle.rt_tree.specs.declared.step.PatchStep.{PatchStep}
use Rattle.rt_tree.specs.Awaits.{awaited, no_answer}
use Rattle.rt_tree.specs.Grows.{Grows}
use Rattle.rt_tree.specs.Runs.{Runs}
use Rattle.rt_tree.specs.Served.{edits_left, marks_left}
use Rattle.rt_tree.proofs.Growing.{runs_grow}
use Rattle.law_served.specs.KnownSpots.{Each, KnownAt, StartsWith}
use Rattle.law_served.specs.Meeting.{IsFedAt, IsOver, OfEachFed, Renews, ShowNodes, StartsOver}
use Rattle.law_served.specs.RunWritten.{Ends, FreeAt, Shows, Starts, both_end, edits_with}
use Rattle.law_served.specs.Starting.{IsFull}
use Rattle.law_served.proofs.Begun.{kept_child, kept_numbered, kept_starts}
use Rattle.law_served.proofs.Filled.{run_fills}
use Rattle.law_served.proofs.Spots.{child_grown}
use Rattle.law_served.proofs.Whole.{run_brings}

module _ {K : Types} where
  -- a number whose place the new tree has is the one that it was
  kept_number : (news : List (Spot K)) (numbers : List (Place × Kind × ℕ)) (p : Place) (k : Kind) → has_node news p k ≡ true
      → number_at (kept_numbers news numbers) p k ≡ number_at numbers p k
  kept_number news [] p k here = refl
  kept_number news (e ∷ es) p k here =
      by_test (has_node news e.0 e.1)
      (
      λ kept.
      ap (λ (xs : List (Place × Kind × ℕ)). number_at xs p k) (pick_true (e ∷ kept_numbers news es) (kept_numbers news es) kept)
      ∙ by_test (same_kind e.1 k && same_place e.0 p)
      (λ r. pick_true e.2 (number_at (kept_numbers news es) p k) r ∙ sym (pick_true e.2 (number_at es p k) r))
      (λ r.
      pick_false e.2 (number_at (kept_numbers news es) p k) r
      ∙ kept_number news es p k here
      ∙ sym (pick_false e.2 (number_at es p k) r))
      )
      (
      λ gone.
      ap (λ (xs : List (Place × Kind × ℕ)). number_at xs p k) (pick_false (e ∷ kept_numbers news es) (kept_numbers news es) gone)
      ∙ by_test (same_kind e.1 k && same_place e.0 p)
      (λ r.
      let kinds : e.1 ≡ k = same_kind-true e.1 k (and-left (same_kind e.1 k) (same_place e.0 p) r) in
      let places : e.0 ≡ p = same_place-true e.0 p (and-right (same_kind e.1 k) (same_place e.0 p) r) in
      absurd (true≢false (sym here ∙ (λ t. has_node news (sym places t) (sym kinds t)) ∙ gone)))
      (λ r. kept_number news es p k here ∙ sym (pick_false e.2 (number_at es p k) r))
      )

  -- the components of a full side show nodes, where its child scopes do
  full_rows : (side : state.Side K) (inner : ℕ → Forest) (tree : Tree K) → IsFull side tree → ShowNodes side inner → Rows side inner (spots [] tree)
  full_rows side inner tree full shows p c there =
      let kid = full.children p c (component-found (spots [] tree) (spots_distinct [] tree) p c there) in
      subst (λ (o : Option ℕ). HasNode (child_view inner o)) (sym kid.1) (shows p kid.0 kid.1)

module _ {P C Q V H T E L : Type 0} (app : Application (types C Q V H T E L)) (p r : Patch P C Q V H T E L) (new : VNode P C Q V H T E L) (old : Tree (types C Q V H T E L))
    (over : StartsOver app p new old) where
  abbrev olds : List (Spot (types C Q V H T E L))
  olds = spots [] old

  abbrev news : List (Spot (types C Q V H T E L))
  news = spots [] (tree_of new)

  -- it knows what stays
  over_starts : StartsWith (λ q s. KnownAt q s) (λ m. brings m) p (tree_marks app [] (tree_of new) old) × Each (λ q s. FreeAt q s) p (all_fresh (tree_marks app [] (tree_of new) old))
  over_starts = kept_starts app p p.old new old (ap (λ (o : Option (Tree (types C Q V H T E L))). spots_of o) over.output) over.kept over.full

  module _ (grown : Grows p r) where
    -- a node of both trees keeps its number
    number_kept : (q : Place) (k : Kind) → has_node olds q k ≡ true → has_node news q k ≡ true → number_at (side_of r.new.side).numbers q k ≡ number_at (side_of p.old).numbers q k
    number_kept q k was is =
        let known : is_numbered (side_of p.new.side).numbers q k ≡ true =
        ap (λ (xs : List (Place × Kind × ℕ)). is_numbered xs q k) over.kept.numbers ∙ kept_numbered news (side_of p.old).numbers q k is (over.full.numbers q k was) in
        let stays : number_at (side_of p.new.side).numbers q k ≡ number_at (side_of r.new.side).numbers q k =
        appended_agrees (side_of p.new.side) (side_of r.new.side) (λ t. Empty) (λ t. Empty) grown.numbers grown.children (node_at q k) grown.drawn grown.made known in
        sym stays ∙ ap (λ (xs : List (Place × Kind × ℕ)). number_at xs q k) over.kept.numbers ∙ kept_number news (side_of p.old).numbers q k is

    -- a component that is fed keeps its child scope
    child_kept : (q : Place) (t : ℕ) → IsFedAt app (tree_of new) old q → child_at (side_of p.old).children q ≡ Some t → child_at (side_of r.new.side).children q ≡ Some t
    child_kept q t fed was =
        let children : (side_of p.new.side).children ≡ kept_children app olds news (side_of p.old).children =
        over.kept.children ∙ ap (λ (o : Option (Tree (types C Q V H T E L))). kept_children app (spots_of o) news (side_of p.old).children) over.output in
        child_grown p r grown q t (ap (λ (xs : List (Place × ℕ)). child_at xs q) children ∙ kept_child app olds news q (side_of p.old).children t fed was)

    module _ (ends : IsFull (side_of r.new.side) (tree_of new)) (before after : ℕ → Forest) (under : ℕ → Written) (child : ℕ → Type 0) where
      -- so the trees meet
      meets : (level other : ℕ) → fits_at (tree_of new) level ≡ true → fits_at old other ≡ true → ShowNodes (side_of p.old) before → ShowNodes (side_of r.new.side) after
          → OfEachFed app (side_of p.old) (tree_of new) old child → TreeMeets app (both_end r before after under) child [] (tree_of new) old
      meets level other fits had show_old show_new each =
          tree_meets app (λ numbers above y x i j same fy fx. fitting_bring numbers above y x i j same fy fx) (both_end r before after under) child [] (tree_of new) old level other fits had
          (record {
            nodes =
                λ q k here there.
                number_kept q k (found_node olds q k there) (found_node news q k here) ∙ ap (λ (side : Side P C Q V H T E L). number_at (side_of side).numbers q k) (sym grown.old);
            fed =
                λ q c d here there same.
                let was : component_in olds q ≡ Some d = component-found olds (spots_distinct [] old) q d there in
                let is : component_in news q ≡ Some c = component-found news (spots_distinct [] (tree_of new)) q c here in
                let fed : is_fed app (component_in olds q) (component_in news q) ≡ true =
                ap (λ (o : Option (VComponent (types C Q V H T E L))). is_fed app o (component_in news q)) was
                ∙ ap (λ (o : Option (VComponent (types C Q V H T E L))). is_fed app (Some d) o) is
                ∙ same in
                let kid = over.full.children q d was in
                let stood : child_at (side_of r.old).children q ≡ Some kid.0 = ap (λ (side : Side P C Q V H T E L). child_at (side_of side).children q) grown.old ∙ kid.1 in
                (child_kept q kid.0 fed kid.1 ∙ sym stood, subst (λ (o : Option ℕ). ChildMeets app (both_end r before after under) child o) (sym stood) (each q kid.0 fed kid.1));
            old_rows = subst (λ (side : Side P C Q V H T E L). Rows (side_of side) before olds) (sym grown.old) (full_rows (side_of p.old) before old over.full show_old);
            new_rows = full_rows (side_of r.new.side) after (tree_of new) ends show_new;
          })

module _ {P C Q V H T E L : Type 0} (app : Application (types C Q V H T E L)) where
  pub blocks_meet : (p r : Patch P C Q V H T E L) (ss : List (PatchStep P C Q V H T E L)) (met : List (Mark (types C Q V H T E L) × Patch P C Q V H T E L)) (new : VNode P C Q V H T E L)
      (old : Tree (types C Q V H T E L)) (level other : ℕ) (before after : ℕ → Forest) (under : ℕ → Written) (claims : ℕ → ℕ → ℕ) → Runs app p ss met r → StartsOver app p new old → IsOver r
      → fits_at (tree_of new) level ≡ true → fits_at old other ≡ true → ShowNodes (side_of p.old) before → ShowNodes (side_of r.new.side) after
      → OfEachFed app (side_of p.old) (tree_of new) old (λ t. ChildBrings (both_end r before after under) claims t)
      → TreeMeets app (both_end r before after under) (λ t. ChildBrings (both_end r before after under) claims t) [] (tree_of new) old
  blocks_meet p r ss met new old level other before after under claims run over end fits had show_old show_new each =
      let known : StartsWith (λ q s. KnownAt q s) (λ m. brings m) p (marks_left p) =
      subst (λ (ms : List (Mark (types C Q V H T E L))). StartsWith (λ q s. KnownAt q s) (λ m. brings m) p ms) (sym over.marks) (over_starts app p r new old over).0 in
      meets app p r new old over (runs_grow app p r ss met run).0 (run_fills app p r ss met (tree_of new) old run over.free over.marks known end.marks end.free) before after under
      (λ t. ChildBrings (both_end r before after under) claims t) level other fits had show_old show_new each

  pub run_renews : (p r : Patch P C Q V H T E L) (ss : List (PatchStep P C Q V H T E L)) (met : List (Mark (types C Q V H T E L) × Patch P C Q V H T E L)) (new : VNode P C Q V H T E L)
      (old : Tree (types C Q V H T E L)) (level other : ℕ) (before after : ℕ → Forest) (under : ℕ → Written) (claims : ℕ → ℕ → ℕ) → Runs app p ss met r → StartsOver app p new old → p.shown ≡ true
      → edits_left p ≡ [] → Ends r → awaited r.phase ≡ no_answer → Shows r before after under → fits_at (tree_of new) level ≡ true → fits_at old other ≡ true
      → ShowNodes (side_of p.old) before → ShowNodes (side_of r.new.side) after
      → OfEachFed app (side_of p.old) (tree_of new) old (λ t. ChildBrings (both_end r before after under) claims t) → Renews app p r ss (tree_of new) old before after under claims
  run_renews p r ss met new old level other before after under claims run over shown none end free shows fits had show_old show_new each =
      let starts = over_starts app p r new old over in
      let grown : Grows p r = (runs_grow app p r ss met run).0 in
      let start : Starts app p (tree_of new) old =
      record {
        free = over.free;
        shown = shown;
        none = none;
        marks = over.marks;
        known = subst (λ (ms : List (Mark (types C Q V H T E L))). StartsWith (λ q s. KnownAt q s) (λ m. brings m) p ms) (sym over.marks) starts.0;
        apart = subst (λ (ms : List (Mark (types C Q V H T E L))). Each (λ q s. FreeAt q s) p (all_fresh ms)) (sym over.marks) starts.1;
      } in
      let meet =
      blocks_meet p r ss met new old level other before after under claims run over (record { marks = end.marks; free = free }) fits had show_old show_new each in
      record {
        numbers = λ q k was is. number_kept app p r new old over grown q k was is;
        children = λ q t fed was. child_kept app p r new old over grown q t fed was;
        brings =
            subst
            (λ (side : Side P C Q V H T E L). Brings (edits_with under ss) (tree_view (side_of side) before [] old) (tree_view (side_of r.new.side) after [] (tree_of new))
            (λ n. tree_claims app (both_end r before after under) claims n [] (tree_of new) old))
            grown.old
            (run_brings app p r ss met (tree_of new) old before after under claims run start end shows meet);
      }
