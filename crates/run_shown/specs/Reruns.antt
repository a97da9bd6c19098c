-- What a rerun writes, by the definitions, for each pair of states whose scopes the looks show, and each application
-- that tells its components apart.
use Rattle.std.specs.Prelude.{ℕ, List, map, length, Option, Some, ◌≡◌}
use Rattle.rt_edits.specs.declared.edit.Edit.{Edit}
use Rattle.rt_model.specs.OneLog.{types}
use Rattle.rt_model.specs.World.{Application}
use Rattle.rt_model.specs.Laws.{Tests}
use Rattle.rt_model.specs.State as state
use Rattle.rt_model.specs.Replay.{Rerun}
use Rattle.rt_model.specs.Caused as caused
use Rattle.rt_model.specs.Unchanged.{AllSingle}
use Rattle.tree_edits.specs.Documents.{edit_of}
use Rattle.run_records.specs.Kept.{each, scope_of}
use Rattle.run_records.specs.declared.rest.Scope.{Scope}
use Rattle.run_work.specs.declared.item.Item.{Item}
use Rattle.run_work.specs.Items.{item_of}
use Rattle.run_shown.specs.declared.look.Look.{Look}
use Rattle.run_shown.specs.declared.look.Stood.{Stood}
use Rattle.run_shown.specs.Look.{ShowsScopes}
use Rattle.run_shown.specs.Stands.{Stands}
use Rattle.run_shown.specs.Touched.{KnowParents}

module _ {P C Q V H T E L : Type 0} where
  -- the edits are those of a rerun, between a state of which it was kept what has changed since, and one with these scopes. There no
  -- attribute slot has a name twice, and children know their parents
  abbrev pub AreCaused : List Edit → List (ℕ × Scope P C Q V H T E L) → List (ℕ × Option (Stood P C Q V H T E L)) → ℕ → ℕ → Type 0
  AreCaused edits rows stood count s =
      (app : Application (types C Q V H T E L)) (w v : state.State (types C Q V H T E L))
      → Tests C app.same_component → Stands stood w.scopes (each scope_of rows) → count ≡ length w.scopes → v.scopes ≡ each scope_of rows
      → AllSingle v → KnowParents v → map edit_of edits ≡ caused.caused app w v (Rerun s)

  -- the edits are those of a rerun that was refused at an item
  abbrev pub AreCausedUntil : List Edit → Look P C Q V H T E L → Look P C Q V H T E L → Item P C Q V H T E L → ℕ → Type 0
  AreCausedUntil edits before after refused s =
      (app : Application (types C Q V H T E L)) (w v : state.State (types C Q V H T E L))
      → Tests C app.same_component → ShowsScopes before w → ShowsScopes after v
      → map edit_of edits ≡ caused.caused_until app w v (Some (item_of refused)) (Rerun s)
