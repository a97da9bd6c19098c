-- The edits between two states, as the looks at them show.
use Rattle.std.proofs.Common.{ℕ, List, refl}
use Rattle.rt_edits.specs.declared.edit.Edit.{Edit}
use Rattle.rt_model.specs.OneLog.{types}
use Rattle.rt_model.specs.World.{Application}
use Rattle.rt_model.specs.Laws.{IsLawful}
use Rattle.rt_model.specs.Replay as replay
use Rattle.run_state.specs.Mirror.{state_of}
use Rattle.run_shown.specs.Means.{AreBuilt}
use Rattle.run_shown.specs.Reruns.{AreCaused, AreCausedUntil}
use Rattle.run_shown.specs.Stands.{ShowsRows, ShowsStood}
use Rattle.run_shown.specs.declared.look.Look.{Look}
use Rattle.run_work.specs.Items.{item_of}
use Rattle.run_work.specs.declared.item.Item.{Item}
use Rattle.run_machine.specs.Writings.{AreCausedNow, AreUntil}
use Rattle.run_machine.specs.declared.machine.Machine.{Machine}

module _ {P C Q V H T E L : Type 0} where
  -- what the build wrote
  pub built_now : (d : Machine P C Q V H T E L) (edits : List Edit) (after : Look P C Q V H T E L)
      → AreBuilt edits after → ShowsRows after ((d.scopes).state.rows).table → AreCausedNow replay.Build d edits
  built_now d edits after are shows app lawful g w remembers orderly = are app w (state_of g (d.scopes).state) (shows (state_of g (d.scopes).state) refl)

  -- what a rerun wrote
  pub rerun_now : (d : Machine P C Q V H T E L) (edits : List Edit) (s : ℕ) → AreCaused edits ((d.scopes).state.rows).table d.stood d.lived s → AreCausedNow (replay.Rerun s) d edits
  rerun_now d edits s are app lawful g w remembers orderly =
      are app w (state_of g (d.scopes).state) lawful.tests_components remembers.0 remembers.1 refl orderly.single orderly.know

  -- what a rerun wrote up to an item that was refused
  pub rerun_until : (d : Machine P C Q V H T E L) (edits : List Edit) (before after : Look P C Q V H T E L) (item : Item P C Q V H T E L) (s : ℕ)
      → AreCausedUntil edits before after item s → ShowsStood before ((d.scopes).state.rows).table d.stood d.lived → ShowsRows after ((d.scopes).state.rows).table
      → AreUntil (item_of item) (replay.Rerun s) d edits
  rerun_until d edits before after item s are stood shows app lawful g w remembers =
      are app w (state_of g (d.scopes).state) lawful.tests_components (stood w remembers.0 remembers.1) (shows (state_of g (d.scopes).state) refl)
