-- What the calls answer, by the definitions, for each state whose scopes the looks show.
use Rattle.std.specs.Prelude.{ℕ, Bool, List, map, ◌≡◌}
use Rattle.rt_edits.specs.declared.doc_node.DocNode.{DocNode}
use Rattle.rt_edits.specs.declared.edit.Edit.{Edit}
use Rattle.rt_model.specs.OneLog.{types}
use Rattle.rt_model.specs.Lists.{Text}
use Rattle.rt_model.specs.World.{Application}
use Rattle.rt_model.specs.State as state
use Rattle.rt_model.specs.Replay.{Build}
use Rattle.rt_model.specs.View as views
use Rattle.rt_model.specs.Heard as hears
use Rattle.rt_model.specs.Caused as caused
use Rattle.tree_edits.specs.Documents.{edit_of, forest_of}
use Rattle.run_shown.specs.declared.hearing.Listener.{Listener}
use Rattle.run_shown.specs.declared.look.Look.{Look}
use Rattle.run_shown.specs.Hearing.{listeners_of}
use Rattle.run_shown.specs.Look.{ShowsScopes}

module _ {P C Q V H T E L : Type 0} where
  -- the row is the document that a scope shows
  abbrev pub IsView : List DocNode → Look P C Q V H T E L → ℕ → Type 0
  IsView row look s = (w : state.State (types C Q V H T E L)) → ShowsScopes look w → forest_of row ≡ views.nodes_of w s

  -- the listeners are those that an event calls
  abbrev pub AreHeard : List (Listener P C Q V H T E L) → Look P C Q V H T E L → Text → ℕ → Bool → Type 0
  AreHeard listeners look event element bubbles =
      (w : state.State (types C Q V H T E L)) → ShowsScopes look w → listeners_of listeners ≡ hears.heard w event element bubbles

  -- the edits are those of the build
  abbrev pub AreBuilt : List Edit → Look P C Q V H T E L → Type 0
  AreBuilt edits after =
      (app : Application (types C Q V H T E L)) (w v : state.State (types C Q V H T E L)) → ShowsScopes after v
      → map edit_of edits ≡ caused.caused app w v Build
