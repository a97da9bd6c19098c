-- A patch that goes on from its start to its end has a number for each node of its tree, and a child scope for each component.
use Rattle.std.specs.Prelude.{List, [], map, ◌≡◌}
use Rattle.rt_model.specs.OneLog.{types}
use Rattle.rt_model.specs.Tree.{Tree, spots}
use Rattle.rt_model.specs.World.{Application}
use Rattle.tree_marks.specs.Marks.{Mark, come, tree_marks}
use Rattle.tree_marks.specs.Spots.{brings}
use Rattle.run_places.specs.Places.{side_of}
use Rattle.rt_tree.specs.declared.patch.Patch.{Patch}
use Rattle.rt_tree.specs.declared.step.PatchStep.{PatchStep}
use Rattle.rt_tree.specs.Awaits.{awaited, no_answer}
use Rattle.rt_tree.specs.Runs.{Runs}
use Rattle.rt_tree.specs.Served.{marks_left}
use Rattle.law_served.specs.KnownSpots.{KnownAt, StartsWith}
use Rattle.law_served.specs.Starting.{IsFull}

module _ (P : Type 0) {C Q V H T E L : Type 0} where
  -- over an old tree, where it knows from the start what stays
  abbrev pub RunFills : Application (types C Q V H T E L) → Type 0
  RunFills app =
      (p r : Patch P C Q V H T E L) (ss : List (PatchStep P C Q V H T E L))
      (met : List (Mark (types C Q V H T E L) × Patch P C Q V H T E L))
      (new old : Tree (types C Q V H T E L))
      → Runs app p ss met r
      → awaited p.phase ≡ no_answer
      → marks_left p ≡ tree_marks app [] new old
      → StartsWith (λ q s. KnownAt q s) (λ m. brings m) p (marks_left p)
      → marks_left r ≡ []
      → awaited r.phase ≡ no_answer
      → IsFull (side_of r.new.side) new

  -- and of a first tree
  abbrev pub FirstFills : Application (types C Q V H T E L) → Type 0
  FirstFills app =
      (p r : Patch P C Q V H T E L) (ss : List (PatchStep P C Q V H T E L))
      (met : List (Mark (types C Q V H T E L) × Patch P C Q V H T E L))
      (new : Tree (types C Q V H T E L))
      → Runs app p ss met r
      → awaited p.phase ≡ no_answer
      → marks_left p ≡ map come (spots [] new)
      → marks_left r ≡ []
      → awaited r.phase ≡ no_answer
      → IsFull (side_of r.new.side) new
