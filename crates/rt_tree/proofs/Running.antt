-- Step after step marks go by in order, and what was written at them is what was given.
use Rattle.std.proofs.Common.{List, [], ◌∷◌, ◌++◌, ◌≡◌, map, refl, sym, ap, ◌∙◌, append-nil, append_assoc}
use Rattle.rt_model.specs.Document.{Edit}
use Rattle.rt_model.specs.Lists.{joined}
use Rattle.rt_model.specs.OneLog.{types}
use Rattle.rt_model.specs.World.{Application}
use Rattle.tree_marks.specs.Marks.{Mark}
use Rattle.run_work.proofs.Joins.{joined_append}
use Rattle.run_work.proofs.Walking.{mapped}
use Rattle.rt_tree.specs.declared.patch.Patch.{Patch}
use Rattle.rt_tree.specs.declared.step.PatchStep.{PatchStep}
use Rattle.rt_tree.specs.Runs.{IsInOrder, Runs, edits_of, passed_by, stays, steps, gives}
use Rattle.rt_tree.specs.Served.{edits_in, edits_left, marks_left, writes_now}

module _ {P C Q V H T E L : Type 0} where
  -- the marks that were passed by one patch
  pub firsts : (p : Patch P C Q V H T E L) (ms : List (Mark (types C Q V H T E L))) → map (λ x. x.0) (passed_by p ms) ≡ ms
  firsts p [] = refl
  firsts p (m ∷ ms) = ap (λ (xs : List (Mark (types C Q V H T E L))). m ∷ xs) (firsts p ms)

module _ {P C Q V H T E L : Type 0} (app : Application (types C Q V H T E L)) where
  -- what it writes at them
  abbrev written : List (Mark (types C Q V H T E L) × Patch P C Q V H T E L) → List Edit
  written met = joined (map (λ x. writes_now app x.1 x.0) met)

  written_by : (p : Patch P C Q V H T E L) (ms : List (Mark (types C Q V H T E L))) → written (passed_by p ms) ≡ joined (map (λ m. writes_now app p m) ms)
  written_by p [] = refl
  written_by p (m ∷ ms) = ap (λ (es : List Edit). writes_now app p m ++ es) (written_by p ms)

  pub in_order : (p r : Patch P C Q V H T E L) (ss : List (PatchStep P C Q V H T E L)) (met : List (Mark (types C Q V H T E L) × Patch P C Q V H T E L)) → Runs app p ss met r → IsInOrder app p ss met r
  in_order p r ss met (stays q) = record { marks = refl; edits = append-nil (edits_left p) }
  in_order p r ss met (steps q n last step fs more free s leaves waits run) =
      let rest : IsInOrder app n fs more r = in_order n r fs more run in
      record {
        marks =
            s.marks
            ∙ ap (λ (xs : List (Mark (types C Q V H T E L))). s.passed ++ xs) rest.marks
            ∙ sym (append_assoc s.passed (map (λ x. x.0) more) (marks_left r))
            ∙ ap (λ (xs : List (Mark (types C Q V H T E L))). xs ++ marks_left r)
            (ap (λ (xs : List (Mark (types C Q V H T E L))). xs ++ map (λ x. x.0) more) (sym (firsts q s.passed)) ∙ sym (mapped (λ x. x.0) (passed_by q s.passed) more));
        edits =
            ap (λ (zs : List Edit). edits_left q ++ zs)
            (joined_append (λ x. writes_now app x.1 x.0) (passed_by q s.passed) more ∙ ap (λ (zs : List Edit). zs ++ written more) (written_by q s.passed))
            ∙ sym (append_assoc (edits_left q) (joined (map (λ m. writes_now app q m) s.passed)) (written more))
            ∙ ap (λ (zs : List Edit). zs ++ written more) s.edits
            ∙ append_assoc (edits_in step) (edits_left n) (written more)
            ∙ ap (λ (zs : List Edit). edits_in step ++ zs) rest.edits
            ∙ sym (append_assoc (edits_in step) (edits_of fs) (edits_left r));
      }
  in_order p r ss met (gives q n last scope nodes fs more asked g free run) =
      let rest : IsInOrder app n fs more r = in_order n r fs more run in
      record {
        marks = sym g.marks ∙ rest.marks;
        edits = ap (λ (zs : List Edit). zs ++ written more) (sym g.edits) ∙ rest.edits;
      }
