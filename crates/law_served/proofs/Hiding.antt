-- Where the block isn't shown nothing is written at any mark.
use Rattle.std.proofs.Common.{List, [], ◌∷◌, ◌++◌, ◌≡◌, false, map, refl, sym, ◌∙◌}
use Rattle.rt_model.specs.Lists.{joined}
use Rattle.rt_model.specs.OneLog.{types}
use Rattle.rt_model.specs.World.{Application}
use Rattle.tree_marks.specs.Marks.{Mark}
use Rattle.rt_tree.specs.declared.patch.Patch.{Patch}
use Rattle.rt_tree.specs.declared.step.PatchStep.{PatchStep}
use Rattle.rt_tree.specs.Grows.{Grows}
use Rattle.rt_tree.specs.Runs.{IsInOrder, Runs, edits_of}
use Rattle.rt_tree.specs.Served.{edits_left, writes_now}
use Rattle.rt_tree.proofs.Coming.{first_none}
use Rattle.rt_tree.proofs.Growing.{AllGrown, runs_grow}
use Rattle.rt_tree.proofs.Quiet.{hidden}
use Rattle.rt_tree.proofs.Running.{in_order}

module _ {P C Q V H T E L : Type 0} (app : Application (types C Q V H T E L)) where
  all_hidden : (r : Patch P C Q V H T E L) (met : List (Mark (types C Q V H T E L) × Patch P C Q V H T E L)) → r.shown ≡ false → AllGrown met r
      → joined (map (λ x. writes_now app x.1 x.0) met) ≡ []
  all_hidden r [] is_hidden gr = refl
  all_hidden r (x ∷ met) is_hidden gr = (λ t. hidden app x.1 x.0 (sym gr.0.shown ∙ is_hidden) t ++ all_hidden r met is_hidden gr.2 t)

  pub run_hides : (p r : Patch P C Q V H T E L) (ss : List (PatchStep P C Q V H T E L)) (met : List (Mark (types C Q V H T E L) × Patch P C Q V H T E L)) → Runs app p ss met r
      → p.shown ≡ false → edits_left p ≡ [] → edits_of ss ≡ []
  run_hides p r ss met run is_hidden none =
      let order : IsInOrder app p ss met r = in_order app p r ss met run in
      let grows : Grows p r × AllGrown met r = runs_grow app p r ss met run in
      first_none (edits_of ss) (edits_left r) (sym order.edits ∙ (λ t. none t ++ all_hidden r met (grows.0.shown ∙ is_hidden) grows.1 t))
