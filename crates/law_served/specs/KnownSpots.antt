-- What was brought in front of a mark is known when a patch passes it.
use Rattle.std.specs.Prelude.{ℕ, true, List, [], ◌∷◌, ◌++◌, map, None, Some, ◌≡◌}
use Rattle.rt_model.specs.Lists.{joined}
use Rattle.rt_model.specs.OneLog.{types}
use Rattle.rt_model.specs.Run.{child_at}
use Rattle.rt_model.specs.Tree.{Place, Spot, node_at, component_at}
use Rattle.rt_model.specs.World.{Application}
use Rattle.tree_marks.specs.Marks.{Mark}
use Rattle.tree_marks.specs.Spots.{brings}
use Rattle.run_places.specs.Places.{side_of}
use Rattle.run_shown.specs.Unknowns.{is_given}
use Rattle.law_patch.specs.Appended.{is_numbered}
use Rattle.rt_tree.specs.declared.patch.Patch.{Patch}
use Rattle.rt_tree.specs.declared.step.PatchStep.{PatchStep}
use Rattle.rt_tree.specs.Awaits.{awaited, no_answer}
use Rattle.rt_tree.specs.Does.{IsStill}
use Rattle.rt_tree.specs.Runs.{Runs}

module _ {P C Q V H T E L : Type 0} where
  -- a patch has the number of a node, or the child scope of a component
  abbrev pub KnownAt : Patch P C Q V H T E L → Spot (types C Q V H T E L) → Type 0
  KnownAt p (node_at q k) = is_numbered (side_of p.new.side).numbers q k ≡ true
  KnownAt p (component_at q c) = (t : ℕ) × (child_at (side_of p.new.side).children q ≡ Some t)

  module _ (At : Patch P C Q V H T E L → Spot (types C Q V H T E L) → Type 0) where
    -- so it is at each of these spots
    abbrev pub Each : Patch P C Q V H T E L → List (Spot (types C Q V H T E L)) → Type 0
    Each p [] = Unit {0}
    Each p (s ∷ ss) = At p s × Each p ss

    module _ (spots_of_mark : Mark (types C Q V H T E L) → List (Spot (types C Q V H T E L))) where
      -- so it is from the start at the spots of marks at which nothing new comes
      abbrev pub StartsWith : Patch P C Q V H T E L → List (Mark (types C Q V H T E L)) → Type 0
      StartsWith p [] = Unit {0}
      StartsWith p (m ∷ ms) = (IsStill m → Each p (spots_of_mark m)) × StartsWith p ms

      -- when each of these marks is passed it is so at the spots of those in front of it
      abbrev pub KnownBehind : List (Mark (types C Q V H T E L)) → List (Mark (types C Q V H T E L) × Patch P C Q V H T E L) → Type 0
      KnownBehind front [] = Unit {0}
      KnownBehind front (x ∷ met) = Each x.1 (joined (map spots_of_mark front)) × KnownBehind (front ++ x.0 ∷ []) met

  -- a child scope that stands where none stood at first has its row
  abbrev pub NewGiven : Patch P C Q V H T E L → Patch P C Q V H T E L → Type 0
  NewGiven start q =
      (place : Place) (t : ℕ)
      → child_at (side_of start.new.side).children place ≡ None
      → child_at (side_of q.new.side).children place ≡ Some t
      → is_given q.given t ≡ true

  -- when each of these marks is passed
  abbrev pub AllNewGiven : Patch P C Q V H T E L → List (Mark (types C Q V H T E L) × Patch P C Q V H T E L) → Type 0
  AllNewGiven start [] = Unit {0}
  AllNewGiven start (x ∷ met) = NewGiven start x.1 × AllNewGiven start met

module _ (P : Type 0) {C Q V H T E L : Type 0} where
  -- along a run, from where nothing is waited for, what was brought in front is known
  abbrev pub BroughtIsKnown : Application (types C Q V H T E L) → Type 0
  BroughtIsKnown app =
      (p r : Patch P C Q V H T E L) (ss : List (PatchStep P C Q V H T E L))
      (met : List (Mark (types C Q V H T E L) × Patch P C Q V H T E L))
      → Runs app p ss met r
      → awaited p.phase ≡ no_answer
      → StartsWith (λ q s. KnownAt q s) (λ m. brings m) p (map (λ x. x.0) met)
      → KnownBehind (λ q s. KnownAt q s) (λ m. brings m) [] met

  -- so it is along a run
  abbrev pub NewChildrenGiven : Application (types C Q V H T E L) → Type 0
  NewChildrenGiven app =
      (p r : Patch P C Q V H T E L) (ss : List (PatchStep P C Q V H T E L))
      (met : List (Mark (types C Q V H T E L) × Patch P C Q V H T E L))
      → Runs app p ss met r
      → AllNewGiven p met
