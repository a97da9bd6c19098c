-- The edits of the build and of units.
use Rattle.std.specs.Prelude.{◌≡◌, ℕ, List, map, length, Option, Some, None}
use Rattle.rt_edits.specs.Sinks.{grown}
use Rattle.rt_edits.specs.declared.edit.Edit.{Edit}
use Rattle.tree_edits.specs.Documents.{edit_of}
use Rattle.rt_model.specs.OneLog.{types}
use Rattle.rt_model.specs.Laws.{IsLawful}
use Rattle.rt_model.specs.World.{Application}
use Rattle.rt_model.specs.State as model
use Rattle.rt_model.specs.Replay as replay
use Rattle.rt_model.specs.Caused.{caused, caused_until}
use Rattle.run_state.specs.Mirror.{Unkept, state_of}
use Rattle.run_state.specs.declared.names.Stop.TheVariants as stops
use Rattle.run_machine.specs.Machines.{RemembersFor, first_in}
use Rattle.run_standing.specs.Orderly.{IsOrderly}
use Rattle.run_outside.specs.Ends.{fault_in}
use Rattle.run_outside.specs.Short.{PartBy}
use Rattle.run_outside.specs.declared.ended.Ended.{Ended}
use Rattle.run_outside.specs.declared.ended.Ended.TheVariants as ends
use Rattle.run_machine.specs.declared.machine.Machine.{Machine}

module _ {P C Q V H T E L : Type 0} where
  -- the edits that the build or a unit causes, for whatever application, between a state whose scopes are remembered and the state as it
  -- stands
  abbrev pub AreCausedNow : replay.Entry → Machine P C Q V H T E L → List Edit → Type 0
  AreCausedNow first d edits =
      (app : Application (types C Q V H T E L)) → IsLawful (types C Q V H T E L) app
      → (g : Unkept (types C Q V H T E L)) (w : model.State (types C Q V H T E L))
      → RemembersFor (Some first) d w.scopes
      → IsOrderly (state_of g (d.scopes).state)
      → map edit_of edits ≡ caused app w (state_of g (d.scopes).state) first

  -- and where it ends: all that shows is mounted
  abbrev pub AreEdits : replay.Entry → Machine P C Q V H T E L → List Edit → Type 0
  AreEdits first d edits =
      (app : Application (types C Q V H T E L)) → IsLawful (types C Q V H T E L) app
      → (g : Unkept (types C Q V H T E L)) (w : model.State (types C Q V H T E L))
      → RemembersFor (Some first) d w.scopes
      → IsOrderly (replay.mounted_state (state_of g (d.scopes).state))
      → map edit_of edits ≡ caused app w (replay.mounted_state (state_of g (d.scopes).state)) first

  -- the edits up to an item that was refused
  abbrev pub AreUntil : model.Item (types C Q V H T E L) → replay.Entry → Machine P C Q V H T E L → List Edit → Type 0
  AreUntil item first d edits =
      (app : Application (types C Q V H T E L)) → IsLawful (types C Q V H T E L) app
      → (g : Unkept (types C Q V H T E L)) (w : model.State (types C Q V H T E L))
      → RemembersFor (Some first) d w.scopes
      → map edit_of edits ≡ caused_until app w (state_of g (d.scopes).state) (Some item) first

  abbrev pub AreEditsUntil : model.Item (types C Q V H T E L) → Machine P C Q V H T E L → List Edit → Type 0
  AreEditsUntil item d edits = (first : replay.Entry) → first_in d ≡ Some first → AreUntil item first d edits

  -- the edits of the build or of a unit were taken
  pub record Closes (first : replay.Entry) (d : Machine P C Q V H T E L) (before after : Option (List Edit)) (count : ℕ) : Type 0 where
    pub wrote : List Edit
    pub told : after ≡ grown before wrote
    pub counted : length wrote ≡ count
    pub are : AreEdits first d wrote

  -- a part of them was taken
  pub record ClosesPart (first : replay.Entry) (d : Machine P C Q V H T E L) (before after : Option (List Edit)) (ended : Ended) : Type 0
    where
      pub wrote : List Edit
      pub told : after ≡ grown before wrote
      pub part :
          (app : Application (types C Q V H T E L)) → IsLawful (types C Q V H T E L) app
          → (g : Unkept (types C Q V H T E L)) (w : model.State (types C Q V H T E L))
          → RemembersFor (Some first) d w.scopes
          → IsOrderly (replay.mounted_state (state_of g (d.scopes).state))
          → PartBy ended (map edit_of wrote) (caused app w (replay.mounted_state (state_of g (d.scopes).state)) first)

  -- the edits up to a refused item were taken
  pub record WroteUntil (item : model.Item (types C Q V H T E L)) (d : Machine P C Q V H T E L) (before after : Option (List Edit)) :
      Type 0 where
    pub wrote : List Edit
    pub told : after ≡ grown before wrote
    pub are : AreEditsUntil item d wrote

  -- a part of those up to a refused item was taken
  pub record WrotePartUntil (item : model.Item (types C Q V H T E L)) (d : Machine P C Q V H T E L) (before after : Option (List Edit))
      (ended : Ended) : Type 0 where
    pub wrote : List Edit
    pub told : after ≡ grown before wrote
    pub part :
        (app : Application (types C Q V H T E L)) → IsLawful (types C Q V H T E L) app
        → (first : replay.Entry)
        → first_in d ≡ Some first
        → (g : Unkept (types C Q V H T E L)) (w : model.State (types C Q V H T E L))
        → RemembersFor (Some first) d w.scopes
        → PartBy ended (map edit_of wrote) (caused_until app w (state_of g (d.scopes).state) (Some item) first)

  -- a run ends for its cause after they were taken, or for want of memory, or at the sink
  abbrev pub Cuts : model.Item (types C Q V H T E L) → Machine P C Q V H T E L → Option (List Edit) → Option (List Edit) → Ended → Ended
      → Type 0
  Cuts item d before after ended result =
      (fault : model.Fault) → fault_in result ≡ Some fault → (fault_in ended ≡ Some fault) × WroteUntil item d before after

  -- where memory was wanting nothing was taken; where a fault came, and then writing broke off, a part of them was
  pub record CutsShort (item : model.Item (types C Q V H T E L)) (d : Machine P C Q V H T E L) (before after : Option (List Edit))
      (ended result : Ended) : Type 0 where
    pub wants : ended ≡ ends.Run stops.OutOfMemory → (result ≡ ended) × (after ≡ before)
    pub breaks : (fault : model.Fault) → fault_in ended ≡ Some fault → fault_in result ≡ None → WrotePartUntil item d before after result
