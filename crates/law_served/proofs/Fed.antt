-- Step after step what was written at marks, with what fed child scopes write there, is what steps give and what these write.
use Rattle.std.proofs.Common.{ℕ, List, [], ◌∷◌, ◌++◌, ◌≡◌, map, refl, sym, ap, subst, ◌∙◌, append-nil, append_assoc}
use Rattle.std.specs.Prelude.{Option, None, Some}
use Rattle.rt_model.specs.Caused.{Written}
use Rattle.rt_model.specs.Document.{Edit}
use Rattle.rt_model.specs.Lists.{joined}
use Rattle.rt_model.specs.OneLog.{types}
use Rattle.rt_model.specs.Run.{child_at}
use Rattle.rt_model.specs.Tree.{Types, Place}
use Rattle.rt_model.specs.World.{Application}
use Rattle.rt_edits.specs.declared.edit.Edit as code
use Rattle.tree_edits.specs.Documents.{edit_of}
use Rattle.tree_marks.specs.Marks.{Mark, stays, goes, comes, fed, left, made, given, worded, slot_goes, tree_goes, slot_way, tree_way, come_in, go_out, lone}
use Rattle.run_places.specs.Places.{side_of}
use Rattle.run_work.proofs.Joins.{joined_append}
use Rattle.rt_tree.specs.declared.patch.Patch.{Patch}
use Rattle.rt_tree.specs.declared.step.PatchStep.{PatchStep}
use Rattle.rt_tree.specs.declared.step.PatchStep.TheVariants as s
use Rattle.rt_tree.specs.Does.{AllQuiet, DoneBy, IsQuiet}
use Rattle.rt_tree.specs.Runs as run
use Rattle.rt_tree.specs.Runs.{Runs, passed_by}
use Rattle.rt_tree.specs.Served.{Serves, edits_in, edits_left, writes_now}
use Rattle.law_served.specs.RunWritten.{edits_with, fed_in}

-- what a fed child scope writes, if there is one
abbrev pub fed_of : (ℕ → Written) → Option ℕ → List Edit
fed_of under None = []
fed_of under (Some t) = (under t).edits

module _ {K : Types} (under : ℕ → Written) (children : List (Place × ℕ)) where
  -- at a mark
  abbrev pub fed_at : Mark K → List Edit
  fed_at (stays p k) = []
  fed_at (goes p k) = []
  fed_at (comes p k) = []
  fed_at (fed p c d) = fed_of under (child_at children p)
  fed_at (left p c) = []
  fed_at (made p d) = []
  fed_at (given above whole new old) = []
  fed_at (worded p new old) = []
  fed_at (slot_goes p old) = []
  fed_at (tree_goes above old) = []
  fed_at (slot_way p new old) = []
  fed_at (tree_way above new old) = []
  fed_at (come_in p front i new) = []
  fed_at (go_out p i old) = []
  fed_at (lone p new) = []

  -- nothing where nothing is done
  quiet_fed : (m : Mark K) → IsQuiet children m → fed_at m ≡ []
  quiet_fed (stays p k) h = refl
  quiet_fed (goes p k) h = refl
  quiet_fed (comes p k) h = absurd h
  quiet_fed (fed p c d) h = ap (λ (o : Option ℕ). fed_of under o) h
  quiet_fed (left p c) h = refl
  quiet_fed (made p d) h = absurd h
  quiet_fed (given above whole new old) h = refl
  quiet_fed (worded p new old) h = refl
  quiet_fed (slot_goes p old) h = refl
  quiet_fed (tree_goes above old) h = refl
  quiet_fed (slot_way p new old) h = refl
  quiet_fed (tree_way above new old) h = refl
  quiet_fed (come_in p front i new) h = refl
  quiet_fed (go_out p i old) h = refl
  quiet_fed (lone p new) h = refl

  module _ (own : Mark K → List Edit) where
    -- what is written there, and what a fed child scope writes
    abbrev pub both_at : Mark K → List Edit
    both_at m = own m ++ fed_at m

    one_alone : (m : Mark K) (es : List Edit) → fed_at m ≡ es → both_at m ≡ own m ++ es
    one_alone m es is = ap (λ (zs : List Edit). own m ++ zs) is

    quiet_joined : (ms : List (Mark K)) → AllQuiet children ms → joined (map (λ m. both_at m) ms) ≡ joined (map own ms)
    quiet_joined [] all = refl
    quiet_joined (m ∷ ms) all = (λ t. (one_alone m [] (quiet_fed m all.0) ∙ append-nil (own m)) t ++ quiet_joined ms all.1 t)

    -- where the last alone is fed
    last_joined : (passed front : List (Mark K)) (m : Mark K) (es : List Edit) → passed ≡ front ++ m ∷ [] → AllQuiet children front → fed_at m ≡ es
        → joined (map (λ n. both_at n) passed) ≡ joined (map own passed) ++ es
    last_joined passed front m es is quiet one =
        ap (λ (ms : List (Mark K)). joined (map (λ n. both_at n) ms)) is
        ∙ joined_append (λ n. both_at n) front (m ∷ [])
        ∙ (λ t. quiet_joined front quiet t ++ (append-nil (both_at m) ∙ one_alone m es one) t)
        ∙ sym (append_assoc (joined (map own front)) (own m) es)
        ∙ ap (λ (zs : List Edit). zs ++ es)
        (sym
        (ap (λ (ms : List (Mark K)). joined (map own ms)) is
        ∙ joined_append own front (m ∷ [])
        ∙ ap (λ (zs : List Edit). joined (map own front) ++ zs) (append-nil (own m))))

module _ {P C Q V H T E L : Type 0} (app : Application (types C Q V H T E L)) (under : ℕ → Written) where
  abbrev pub written_with : Patch P C Q V H T E L → Mark (types C Q V H T E L) → List Edit
  written_with q m = both_at under (side_of q.old).children (λ n. writes_now app q n) m

  module _ (q n : Patch P C Q V H T E L) where
    -- what was left over, and what is written at the marks that a step passes, by what it does
    with_rest : (ms : List (Mark (types C Q V H T E L))) (step later : List Edit) → AllQuiet (side_of q.old).children ms
        → edits_left q ++ joined (map (λ m. writes_now app q m) ms) ≡ step ++ later
        → edits_left q ++ joined (map (λ m. written_with q m) ms) ≡ (step ++ []) ++ later
    with_rest ms step later quiet edits =
        ap (λ (zs : List Edit). edits_left q ++ zs) (quiet_joined under (side_of q.old).children (λ m. writes_now app q m) ms quiet)
        ∙ edits
        ∙ ap (λ (zs : List Edit). zs ++ later) (sym (append-nil step))

    with_last : (passed front : List (Mark (types C Q V H T E L))) (m : Mark (types C Q V H T E L)) (later : List Edit) → passed ≡ front ++ m ∷ [] → AllQuiet (side_of q.old).children front
        → fed_at under (side_of q.old).children m ≡ []
        → edits_left q ++ joined (map (λ x. writes_now app q x) passed) ≡ later
        → edits_left q ++ joined (map (λ x. written_with q x) passed) ≡ later
    with_last passed front m later is quiet none edits =
        ap (λ (zs : List Edit). edits_left q ++ zs)
        (last_joined under (side_of q.old).children (λ x. writes_now app q x) passed front m [] is quiet none ∙ append-nil (joined (map (λ x. writes_now app q x) passed)))
        ∙ edits

    with_fed : (passed front : List (Mark (types C Q V H T E L))) (m : Mark (types C Q V H T E L)) (es : List Edit) → passed ≡ front ++ m ∷ [] → AllQuiet (side_of q.old).children front
        → fed_at under (side_of q.old).children m ≡ es → edits_left n ≡ []
        → edits_left q ++ joined (map (λ x. writes_now app q x) passed) ≡ edits_left n
        → edits_left q ++ joined (map (λ x. written_with q x) passed) ≡ es ++ edits_left n
    with_fed passed front m es is quiet one spent edits =
        ap (λ (zs : List Edit). edits_left q ++ zs) (last_joined under (side_of q.old).children (λ x. writes_now app q x) passed front m es is quiet one)
        ∙ sym (append_assoc (edits_left q) (joined (map (λ x. writes_now app q x) passed)) es)
        ∙ ap (λ (zs : List Edit). zs ++ es) (edits ∙ spent)
        ∙ sym (append-nil es)
        ∙ ap (λ (zs : List Edit). es ++ zs) (sym spent)

    step_with : (step : PatchStep P C Q V H T E L) (passed : List (Mark (types C Q V H T E L))) → DoneBy passed q step n
        → edits_left q ++ joined (map (λ m. writes_now app q m) passed) ≡ edits_in step ++ edits_left n
        → edits_left q ++ joined (map (λ m. written_with q m) passed) ≡ (edits_in step ++ fed_in under step) ++ edits_left n
    step_with (s.Drawn id steps path) passed does edits =
        with_last passed does.front does.mark (edits_left n) does.is does.still
        (ap (λ (m : Mark (types C Q V H T E L)). fed_at under (side_of q.old).children m) does.holds.mark) edits
    step_with (s.Make component) passed does edits =
        with_last passed does.front does.mark (edits_left n) does.is does.still
        (ap (λ (m : Mark (types C Q V H T E L)). fed_at under (side_of q.old).children m) does.holds.mark) edits
    step_with (s.Feed t component) passed does edits =
        with_fed passed does.front does.mark ((under t.0).edits) does.is does.still
        (ap (λ (m : Mark (types C Q V H T E L)). fed_at under (side_of q.old).children m) does.holds.mark ∙ ap (λ (o : Option ℕ). fed_of under o) does.holds.child)
        (ap (λ (es : List code.Edit). map edit_of es) does.holds.spent) edits
    step_with (s.Nodes t) passed does edits = with_rest passed [] (edits_left n) does.still edits
    step_with (s.Edit edit) passed does edits = with_rest passed (edit_of edit ∷ []) (edits_left n) does.still edits
    step_with (s.Remove t) passed does edits = with_rest passed [] (edits_left n) does.still edits
    step_with (s.Gone id) passed does edits = with_rest passed [] (edits_left n) does.still edits
    step_with s.Done passed does edits = with_rest passed [] (edits_left n) does.still edits

  abbrev all_with : List (Mark (types C Q V H T E L) × Patch P C Q V H T E L) → List Edit
  all_with met = joined (map (λ x. written_with x.1 x.0) met)

  with_passed : (p : Patch P C Q V H T E L) (ms : List (Mark (types C Q V H T E L))) → all_with (passed_by p ms) ≡ joined (map (λ m. written_with p m) ms)
  with_passed p [] = refl
  with_passed p (m ∷ ms) = ap (λ (es : List Edit). written_with p m ++ es) (with_passed p ms)

  pub order_with : (p r : Patch P C Q V H T E L) (ss : List (PatchStep P C Q V H T E L)) (met : List (Mark (types C Q V H T E L) × Patch P C Q V H T E L)) → Runs app p ss met r
      → edits_left p ++ all_with met ≡ edits_with under ss ++ edits_left r
  order_with p r ss met (run.stays q) = append-nil (edits_left q)
  order_with p r ss met (run.steps q n last step fs more free served leaves waits on) =
      ap (λ (zs : List Edit). edits_left q ++ zs)
      (joined_append (λ x. written_with x.1 x.0) (passed_by q served.passed) more ∙ ap (λ (zs : List Edit). zs ++ all_with more) (with_passed q served.passed))
      ∙ sym (append_assoc (edits_left q) (joined (map (λ m. written_with q m) served.passed)) (all_with more))
      ∙ ap (λ (zs : List Edit). zs ++ all_with more) (step_with q n step served.passed served.does served.edits)
      ∙ append_assoc (edits_in step ++ fed_in under step) (edits_left n) (all_with more)
      ∙ ap (λ (zs : List Edit). (edits_in step ++ fed_in under step) ++ zs) (order_with n r fs more on)
      ∙ sym (append_assoc (edits_in step ++ fed_in under step) (edits_with under fs) (edits_left r))
  order_with p r ss met (run.gives q n last scope nodes fs more asked g free on) =
      ap (λ (zs : List Edit). zs ++ all_with more) (sym g.edits) ∙ order_with n r fs more on
