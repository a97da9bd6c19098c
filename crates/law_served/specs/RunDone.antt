-- A patch that goes on from its start to its end tells the child scopes that the definitions drop, and the numbers that they don't keep.
use Rattle.std.specs.Prelude.{ℕ, List, [], ◌≡◌}
use Rattle.rt_model.specs.OneLog.{types}
use Rattle.rt_model.specs.Run.{drops_of}
use Rattle.rt_model.specs.State.{SideName}
use Rattle.rt_model.specs.Tree.{Tree, spots}
use Rattle.rt_model.specs.World.{Application}
use Rattle.tree_marks.specs.Marks.{Mark, tree_marks}
use Rattle.run_places.specs.Places.{side_of}
use Rattle.law_patch.specs.Agenda.{not_kept}
use Rattle.rt_tree.specs.declared.patch.Patch.{Patch}
use Rattle.rt_tree.specs.declared.step.PatchStep.{PatchStep}
use Rattle.rt_tree.specs.Endings.{IsClear}
use Rattle.rt_tree.specs.Runs.{Runs, removed_of, told_of}
use Rattle.rt_tree.specs.Served.{marks_left}

module _ {P C Q V H T E L : Type 0} where
  -- what steps told of the end, by the old block as it was
  pub record TellsAll (app : Application (types C Q V H T E L)) (p : Patch P C Q V H T E L) (ss : List (PatchStep P C Q V H T E L))
      (new old : Tree (types C Q V H T E L)) : Type 0 where
    pub drops : (scope : ℕ) (side : SideName) → removed_of scope side ss
        ≡ drops_of app scope side (spots [] new) (side_of p.old).children (spots [] old)
    pub gone : told_of ss ≡ not_kept (spots [] new) (side_of p.old).numbers (spots [] old)

module _ (P : Type 0) {C Q V H T E L : Type 0} where
  abbrev pub RunTellsAll : Application (types C Q V H T E L) → Type 0
  RunTellsAll app =
      (p r : Patch P C Q V H T E L) (ss : List (PatchStep P C Q V H T E L))
      (met : List (Mark (types C Q V H T E L) × Patch P C Q V H T E L))
      (new old : Tree (types C Q V H T E L))
      → Runs app p ss met r
      → marks_left p ≡ tree_marks app [] new old
      → IsClear p
      → marks_left r ≡ []
      → IsClear r
      → TellsAll app p ss new old
