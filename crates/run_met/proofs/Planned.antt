-- Along a walk the plan gets its marks, one after another.
use Rattle.std.proofs.Common.{List, [], ◌∷◌, ◌++◌, ◌≡◌, sym, ap, ◌∙◌, append-nil, append_assoc}
use Rattle.rt_model.specs.OneLog.{types}
use Rattle.tree_marks.specs.Marks.{Mark}
use Rattle.run_work.specs.Met.{Follows}
use Rattle.run_met.specs.declared.planning.Planning.{Planning}
use Rattle.run_met.specs.Mets.{marks_of}

module _ {P C Q V H T E L : Type 0} where
  -- one more mark
  abbrev pub keeps : Mark (types C Q V H T E L) → Planning P C Q V H T E L → Planning P C Q V H T E L → Type 0
  keeps m a b = marks_of b.plan ≡ marks_of a.plan ++ m ∷ []

  -- and all of them
  pub planned : (ms : List (Mark (types C Q V H T E L))) (a b : Planning P C Q V H T E L) → Follows keeps ms a b → marks_of b.plan ≡ marks_of a.plan ++ ms
  planned [] a b h = ap (λ (x : Planning P C Q V H T E L). marks_of x.plan) h ∙ sym (append-nil (marks_of a.plan))
  planned (m ∷ ms) a b h = planned ms h.0 b h.2 ∙ ap (λ xs. xs ++ ms) h.1 ∙ append_assoc (marks_of a.plan) (m ∷ []) ms
