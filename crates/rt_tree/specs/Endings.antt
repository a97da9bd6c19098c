-- What marks leave for the end: child scopes that go, and numbers.
use Rattle.std.specs.Prelude.{ℕ, List, [], ◌∷◌, ◌++◌, map, Option, None, Some, ◌≡◌}
use Rattle.rt_values.specs.declared.names.ScopeId.{ScopeId}
use Rattle.rt_model.specs.Lists.{joined}
use Rattle.rt_model.specs.OneLog.{types}
use Rattle.rt_model.specs.State.{SideName, Item, Drop}
use Rattle.rt_model.specs.Tree.{Types}
use Rattle.tree_marks.specs.Deeds.{dropped_at, gone_at}
use Rattle.tree_marks.specs.Marks.{Mark}
use Rattle.run_places.specs.Places.{side_of}
use Rattle.rt_tree.specs.declared.patch.Patch.{Patch}
use Rattle.rt_tree.specs.declared.step.PatchStep.{PatchStep}
use Rattle.rt_tree.specs.declared.step.PatchStep.TheVariants as s

-- child scopes that go, as open work of a side of a scope
abbrev pub dropping : {K : Types} → ℕ → SideName → List ScopeId → List (Item K)
dropping scope side ts = map (λ t. Drop t.0 scope side) ts

module _ {P C Q V H T E L : Type 0} where
  -- what is left to tell
  abbrev pub drops_left : ℕ → SideName → Patch P C Q V H T E L → List (Item (types C Q V H T E L))
  drops_left scope side p = dropping scope side p.drops.items

  abbrev pub gone_left : Patch P C Q V H T E L → List ℕ
  gone_left p = map (λ i. i.0) p.gone.items

  -- nothing is
  pub record IsClear (p : Patch P C Q V H T E L) : Type 0 where
    pub drops : p.drops.items ≡ []
    pub gone : p.gone.items ≡ []

  -- what a step tells
  abbrev pub removed_in : ℕ → SideName → PatchStep P C Q V H T E L → List (Item (types C Q V H T E L))
  removed_in scope side (s.Remove t) = Drop t.0 scope side ∷ []
  removed_in scope side (s.Make component) = []
  removed_in scope side (s.Feed t component) = []
  removed_in scope side (s.Nodes t) = []
  removed_in scope side (s.Edit edit) = []
  removed_in scope side (s.Drawn id places path) = []
  removed_in scope side (s.Gone id) = []
  removed_in scope side s.Done = []

  abbrev pub told_in : PatchStep P C Q V H T E L → List ℕ
  told_in (s.Gone id) = id.0 ∷ []
  told_in (s.Make component) = []
  told_in (s.Feed t component) = []
  told_in (s.Nodes t) = []
  told_in (s.Edit edit) = []
  told_in (s.Remove t) = []
  told_in (s.Drawn id places path) = []
  told_in s.Done = []

  -- what marks leave, by what the old block has
  abbrev pub dropped_by : ℕ → SideName → Patch P C Q V H T E L → List (Mark (types C Q V H T E L)) → List (Item (types C Q V H T E L))
  dropped_by scope side p ms = joined (map (λ m. dropped_at scope side (side_of p.old).children m) ms)

  abbrev pub gone_by : Patch P C Q V H T E L → List (Mark (types C Q V H T E L)) → List ℕ
  gone_by p ms = joined (map (λ m. gone_at (side_of p.old).numbers m) ms)

  -- nothing more is left to tell
  pub record LeavesNone (before after : Patch P C Q V H T E L) : Type 0 where
    pub drops : after.drops.items ≡ before.drops.items
    pub gone : after.gone.items ≡ before.gone.items

  -- a mark leaves what it drops, and the number that goes
  pub record LeavesAt (m : Mark (types C Q V H T E L)) (before after : Patch P C Q V H T E L) : Type 0 where
    pub drops : (scope : ℕ) (side : SideName) → drops_left scope side after ≡ drops_left scope side before
        ++ dropped_at scope side (side_of before.old).children m
    pub gone : gone_left after ≡ gone_left before ++ gone_at (side_of before.old).numbers m

  -- unless it asks, and stays in front; no mark leads to what is told behind the plan
  abbrev pub LeavesBy : Option (PatchStep P C Q V H T E L) → Mark (types C Q V H T E L) → Patch P C Q V H T E L → Patch P C Q V H T E L
      → Type 0
  LeavesBy None m before after = LeavesAt m before after
  LeavesBy (Some (s.Nodes t)) m before after = LeavesNone before after
  LeavesBy (Some (s.Make component)) m before after = LeavesAt m before after
  LeavesBy (Some (s.Feed t component)) m before after = LeavesAt m before after
  LeavesBy (Some (s.Edit edit)) m before after = LeavesAt m before after
  LeavesBy (Some (s.Remove t)) m before after = ⊥
  LeavesBy (Some (s.Drawn id places path)) m before after = LeavesAt m before after
  LeavesBy (Some (s.Gone id)) m before after = ⊥
  LeavesBy (Some s.Done) m before after = ⊥

  -- marks that are passed leave theirs behind the others, and a step tells the first
  pub record Tells (passed : List (Mark (types C Q V H T E L))) (before : Patch P C Q V H T E L) (step : PatchStep P C Q V H T E L)
      (after : Patch P C Q V H T E L) : Type 0 where
    pub drops : (scope : ℕ) (side : SideName) → drops_left scope side before ++ dropped_by scope side before passed
        ≡ removed_in scope side step ++ drops_left scope side after
    pub gone : gone_left before ++ gone_by before passed ≡ told_in step ++ gone_left after
