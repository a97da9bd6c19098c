-- A patch that goes on from its start to its end does the work that the definitions open of the two trees.
use Rattle.std.specs.Prelude.{ℕ, List, [], ◌≡◌}
use Rattle.rt_model.specs.OneLog.{types}
use Rattle.rt_model.specs.Run.{serves}
use Rattle.rt_model.specs.State.{SideName}
use Rattle.rt_model.specs.Tree.{Tree, spots}
use Rattle.rt_model.specs.World.{Application}
use Rattle.tree_marks.specs.Marks.{Mark, tree_marks}
use Rattle.run_places.specs.Places.{side_of}
use Rattle.rt_tree.specs.declared.patch.Patch.{Patch}
use Rattle.rt_tree.specs.declared.step.PatchStep.{PatchStep}
use Rattle.rt_tree.specs.Runs.{Runs}
use Rattle.rt_tree.specs.Served.{marks_left}
use Rattle.rt_tree.specs.Works.{WorksOn}
use Rattle.law_served.specs.Starting.{IsFull}

module _ (P : Type 0) {C Q V H T E L : Type 0} where
  abbrev pub RunIsOpened : Application (types C Q V H T E L) → Type 0
  RunIsOpened app =
      (scope : ℕ) (side : SideName) (p r : Patch P C Q V H T E L) (ss : List (PatchStep P C Q V H T E L))
      (met : List (Mark (types C Q V H T E L) × Patch P C Q V H T E L)) (new old : Tree (types C Q V H T E L))
      → Runs app p ss met r
      → marks_left p ≡ tree_marks app [] new old
      → IsFull (side_of p.old) old
      → marks_left r ≡ []
      → WorksOn scope side p r ss (serves app scope side (spots [] old) (spots [] new))
