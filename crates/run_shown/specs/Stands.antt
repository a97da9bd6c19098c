-- What is kept of the scopes of a state while they change, and which states a look shows.
use Rattle.std.specs.Prelude.{ℕ, List, Option, Some, None, option_map, length, ◌≡◌}
use Rattle.rt_model.specs.OneLog.{types}
use Rattle.rt_model.specs.Lists.{at}
use Rattle.rt_model.specs.State as state
use Rattle.run_records.specs.Kept.{each, scope_of}
use Rattle.run_records.specs.declared.rest.Scope.{Scope}
use Rattle.run_shown.specs.declared.look.Look.{Look}
use Rattle.run_shown.specs.declared.look.Stood.{Stood}
use Rattle.run_shown.specs.Look.{ShowsScopes, sight_in, sight_of}

module _ {P C Q V H T E L : Type 0} where
  -- of each scope it is kept what it was, or it still shows what it did
  pub record Stands (stood : List (ℕ × Option (Stood P C Q V H T E L))) (was is : List (ℕ × state.Scope (types C Q V H T E L))) :
      Type 0 where
    -- what is kept of a scope is what it was, None where it wasn't live
    pub kept : (s : ℕ) (o : Option (Stood P C Q V H T E L)) → at stood s ≡ Some o → option_map sight_in o ≡ option_map sight_of (at was s)
    -- a scope of which nothing is kept shows what it did
    pub others : (s : ℕ) → at stood s ≡ None → option_map sight_of (at is s) ≡ option_map sight_of (at was s)

  -- the look shows the scopes of each state that has these
  abbrev pub ShowsRows : Look P C Q V H T E L → List (ℕ × Scope P C Q V H T E L) → Type 0
  ShowsRows look rows = (w : state.State (types C Q V H T E L)) → w.scopes ≡ each scope_of rows → ShowsScopes look w

  -- the look shows the scopes of each state with so many, of which it was kept what has changed since
  abbrev pub ShowsStood : Look P C Q V H T E L → List (ℕ × Scope P C Q V H T E L) → List (ℕ × Option (Stood P C Q V H T E L)) → ℕ → Type 0
  ShowsStood look rows stood count =
      (w : state.State (types C Q V H T E L)) → Stands stood w.scopes (each scope_of rows) → count ≡ length w.scopes → ShowsScopes look w
