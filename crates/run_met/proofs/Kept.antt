-- One mark more.
use Rattle.std.proofs.Common.{List, [], ◌∷◌, ◌++◌, ◌≡◌, ap, ◌∙◌}
use Rattle.tree_marks.specs.Marks.{Mark}
use Rattle.rt_model.specs.OneLog.{types}
use Rattle.run_work.proofs.Walking.{mapped}
use Rattle.run_met.specs.declared.met.Met.{Met}
use Rattle.run_met.specs.Mets.{mark_of, marks_of}

module _ {P C Q V H T E L : Type 0} where
  pub one_kept : (plan more : List (Met P C Q V H T E L)) (x : Met P C Q V H T E L) (m : Mark (types C Q V H T E L)) → more ≡ plan ++ x ∷ [] → mark_of x ≡ m
      → marks_of more ≡ marks_of plan ++ m ∷ []
  one_kept plan more x m is same =
      ap (λ (xs : List (Met P C Q V H T E L)). marks_of xs) is ∙ mapped mark_of plan (x ∷ []) ∙ ap (λ (n : Mark (types C Q V H T E L)). marks_of plan ++ n ∷ []) same
