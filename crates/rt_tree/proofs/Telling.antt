-- Step after step what was left for the end is told.
use Rattle.std.proofs.Common.{ℕ, List, [], ◌∷◌, ◌++◌, ◌≡◌, map, refl, sym, ap, ◌∙◌, append-nil, append_assoc}
use Rattle.rt_model.specs.Lists.{joined}
use Rattle.rt_model.specs.OneLog.{types}
use Rattle.rt_model.specs.State.{SideName, Item}
use Rattle.rt_model.specs.World.{Application}
use Rattle.tree_marks.specs.Deeds.{dropped_at, gone_at}
use Rattle.tree_marks.specs.Marks.{Mark}
use Rattle.run_places.specs.Places.{side_of}
use Rattle.run_work.proofs.Joins.{joined_append}
use Rattle.rt_tree.specs.declared.patch.Patch.{Patch}
use Rattle.rt_tree.specs.declared.step.PatchStep.{PatchStep}
use Rattle.rt_tree.specs.Endings.{dropping, drops_left, gone_left, removed_in, told_in}
use Rattle.rt_tree.specs.Runs.{IsTold, Runs, passed_by, removed_of, stays, steps, gives, told_of}

module _ {P C Q V H T E L : Type 0} where
  -- what the marks that were passed by one patch leave
  of_passed : {B : Type 0} (f : Mark (types C Q V H T E L) → List B) (p : Patch P C Q V H T E L) (ms : List (Mark (types C Q V H T E L)))
      → joined (map (λ x. f x.0) (passed_by p ms)) ≡ joined (map f ms)
  of_passed f p [] = refl
  of_passed {B = B} f p (m ∷ ms) = ap (λ (zs : List B). f m ++ zs) (of_passed f p ms)

  -- a step, and those behind it
  step_told : {B : Type 0} (f g : Mark (types C Q V H T E L) → List B) (left now later one rest : List B) (p : Patch P C Q V H T E L) (passed : List (Mark (types C Q V H T E L)))
      (more : List (Mark (types C Q V H T E L) × Patch P C Q V H T E L))
      → f ≡ g → left ++ joined (map f passed) ≡ one ++ now → now ++ joined (map (λ x. g x.0) more) ≡ rest ++ later
      → left ++ joined (map (λ x. f x.0) (passed_by p passed ++ more)) ≡ (one ++ rest) ++ later
  step_told {B = B} f g left now later one rest p passed more same first behind =
      let all : List B = joined (map (λ (x : Mark (types C Q V H T E L) × Patch P C Q V H T E L). f x.0) more) in
      ap (λ (zs : List B). left ++ zs) (joined_append (λ x. f x.0) (passed_by p passed) more ∙ ap (λ (zs : List B). zs ++ all) (of_passed f p passed))
      ∙ sym (append_assoc left (joined (map f passed)) all)
      ∙ ap (λ (zs : List B). zs ++ all) first
      ∙ append_assoc one now all
      ∙ ap (λ (h : Mark (types C Q V H T E L) → List B). one ++ (now ++ joined (map (λ (x : Mark (types C Q V H T E L) × Patch P C Q V H T E L). h x.0) more))) same
      ∙ ap (λ (zs : List B). one ++ zs) behind
      ∙ sym (append_assoc one rest later)

  module _ (app : Application (types C Q V H T E L)) where
    pub told : (p r : Patch P C Q V H T E L) (ss : List (PatchStep P C Q V H T E L)) (met : List (Mark (types C Q V H T E L) × Patch P C Q V H T E L)) → Runs app p ss met r → IsTold p ss met r
    told p r ss met (stays q) = record { drops = λ scope side. append-nil (drops_left scope side q); gone = append-nil (gone_left q) }
    told p r ss met (steps q n last step fs more free s leaves waits run) =
        let rest : IsTold n fs more r = told n r fs more run in
        record {
          drops = λ scope side.
              step_told (λ m. dropped_at scope side (side_of q.old).children m) (λ m. dropped_at scope side (side_of n.old).children m)
              (drops_left scope side q) (drops_left scope side n) (drops_left scope side r) (removed_in scope side step) (removed_of scope side fs) q s.passed more
              (λ t m. dropped_at scope side (side_of (sym leaves.old t)).children m) (s.tells.drops scope side) (rest.drops scope side);
          gone =
              step_told (λ m. gone_at (side_of q.old).numbers m) (λ m. gone_at (side_of n.old).numbers m) (gone_left q) (gone_left n) (gone_left r) (told_in step) (told_of fs) q s.passed more
              (λ t m. gone_at (side_of (sym leaves.old t)).numbers m) s.tells.gone rest.gone;
        }
    told p r ss met (gives q n last scope nodes fs more asked g free run) =
        let rest : IsTold n fs more r = told n r fs more run in
        record {
          drops = λ of side.
              (λ t. dropping of side (sym g.drops t).items ++ joined (map (λ (x : Mark (types C Q V H T E L) × Patch P C Q V H T E L). dropped_at of side (side_of (sym g.old t)).children x.0) more))
              ∙ rest.drops of side;
          gone =
              (λ t. map (λ i. i.0) (sym g.gone t).items ++ joined (map (λ (x : Mark (types C Q V H T E L) × Patch P C Q V H T E L). gone_at (side_of (sym g.old t)).numbers x.0) more))
              ∙ rest.gone;
        }
