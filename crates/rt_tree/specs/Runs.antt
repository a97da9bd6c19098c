-- A patch that goes on, by its steps and by what it is given.
use Rattle.std.specs.Prelude.{ℕ, List, [], ◌∷◌, ◌++◌, map, ◌≡◌}
use Rattle.rt_values.specs.declared.names.ScopeId.{ScopeId}
use Rattle.rt_edits.specs.declared.doc_node.DocNode.{DocNode}
use Rattle.rt_model.specs.Document.{Edit}
use Rattle.rt_model.specs.Lists.{joined}
use Rattle.rt_model.specs.OneLog.{types}
use Rattle.rt_model.specs.State.{SideName, Item}
use Rattle.rt_model.specs.World.{Application}
use Rattle.tree_marks.specs.Deeds.{dropped_at, gone_at}
use Rattle.tree_marks.specs.Marks.{Mark}
use Rattle.run_places.specs.Places.{side_of}
use Rattle.rt_tree.specs.declared.patch.Patch.{Patch}
use Rattle.rt_tree.specs.declared.step.PatchStep.{PatchStep}
use Rattle.rt_tree.specs.Awaits.{IsFor, awaited, awaits, no_answer}
use Rattle.rt_tree.specs.Endings.{drops_left, gone_left, removed_in, told_in}
use Rattle.rt_tree.specs.Gives.{Gives}
use Rattle.rt_tree.specs.Served.{Leaves, Serves, edits_in, edits_left, marks_left, writes_now}

module _ {P C Q V H T E L : Type 0} where
  -- marks that a patch passes, each with the patch as it was then
  abbrev pub passed_by : Patch P C Q V H T E L → List (Mark (types C Q V H T E L))
      → List (Mark (types C Q V H T E L) × Patch P C Q V H T E L)
  passed_by p marks = map (λ m. (m, p)) marks

  -- the edits of some steps
  abbrev pub edits_of : List (PatchStep P C Q V H T E L) → List Edit
  edits_of ss = joined (map edits_in ss)

  -- a patch goes on to another one by these steps, and passes these marks
  pub data Runs (app : Application (types C Q V H T E L)) : Patch P C Q V H T E L → List (PatchStep P C Q V H T E L)
      → List (Mark (types C Q V H T E L) × Patch P C Q V H T E L) → Patch P C Q V H T E L → Type 0 where
    -- not yet
    stays : (p : Patch P C Q V H T E L) → Runs app p [] [] p
    -- by a step, where nothing is waited for
    steps : (p q r : Patch P C Q V H T E L) (step : PatchStep P C Q V H T E L) (ss : List (PatchStep P C Q V H T E L))
        (met : List (Mark (types C Q V H T E L) × Patch P C Q V H T E L))
        → awaited p.phase ≡ no_answer → (s : Serves app p step q) → Leaves p q → awaited q.phase ≡ awaits step → Runs app q ss met r
        → Runs app p (step ∷ ss) (passed_by p s.passed ++ met) r
    -- by the scope that it waits for, with its nodes
    gives : (p q r : Patch P C Q V H T E L) (scope : ScopeId) (nodes : List DocNode) (ss : List (PatchStep P C Q V H T E L))
        (met : List (Mark (types C Q V H T E L) × Patch P C Q V H T E L))
        → IsFor scope (awaited p.phase) → Gives p scope nodes q → awaited q.phase ≡ no_answer → Runs app q ss met r → Runs app p ss met r

  -- its marks go by in order, and its edits are what is written at them, each by what both blocks had when it came up
  pub record IsInOrder (app : Application (types C Q V H T E L)) (p : Patch P C Q V H T E L) (ss : List (PatchStep P C Q V H T E L))
      (met : List (Mark (types C Q V H T E L) × Patch P C Q V H T E L)) (r : Patch P C Q V H T E L) : Type 0 where
    pub marks : marks_left p ≡ map (λ x. x.0) met ++ marks_left r
    pub edits : edits_left p ++ joined (map (λ x. writes_now app x.1 x.0) met) ≡ edits_of ss ++ edits_left r

  -- what steps tell of child scopes that go, and of numbers
  abbrev pub removed_of : ℕ → SideName → List (PatchStep P C Q V H T E L) → List (Item (types C Q V H T E L))
  removed_of scope side ss = joined (map (λ step. removed_in scope side step) ss)

  abbrev pub told_of : List (PatchStep P C Q V H T E L) → List ℕ
  told_of ss = joined (map (λ step. told_in step) ss)

  -- what was left, and what its marks leave, is told in order
  pub record IsTold (p : Patch P C Q V H T E L) (ss : List (PatchStep P C Q V H T E L))
      (met : List (Mark (types C Q V H T E L) × Patch P C Q V H T E L))
      (r : Patch P C Q V H T E L) : Type 0 where
    pub drops : (scope : ℕ) (side : SideName)
        → drops_left scope side p ++ joined (map (λ x. dropped_at scope side (side_of p.old).children x.0) met)
        ≡ removed_of scope side ss ++ drops_left scope side r
    pub gone : gone_left p ++ joined (map (λ x. gone_at (side_of p.old).numbers x.0) met) ≡ told_of ss ++ gone_left r

module _ (P : Type 0) {C Q V H T E L : Type 0} where
  abbrev pub RunsInOrder : Application (types C Q V H T E L) → Type 0
  RunsInOrder app =
      (p r : Patch P C Q V H T E L) (ss : List (PatchStep P C Q V H T E L))
      (met : List (Mark (types C Q V H T E L) × Patch P C Q V H T E L))
      → Runs app p ss met r
      → IsInOrder app p ss met r

  abbrev pub RunsTell : Application (types C Q V H T E L) → Type 0
  RunsTell app =
      (p r : Patch P C Q V H T E L) (ss : List (PatchStep P C Q V H T E L))
      (met : List (Mark (types C Q V H T E L) × Patch P C Q V H T E L))
      → Runs app p ss met r
      → IsTold p ss met r
