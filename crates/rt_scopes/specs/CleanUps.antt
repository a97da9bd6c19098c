-- The clean-ups of a scope, one by one.
use Rattle.std.specs.Prelude.{◌≡◌, ℕ, Bool, List, [], map, None, Result, Ok, Err}
use Rattle.rt_model.specs.Tree.{Types}
use Rattle.rt_model.specs.OneLog.{types}
use Rattle.rt_model.specs.World.{Application, Command}
use Rattle.rt_model.specs.State as model
use Rattle.rt_model.specs.State.{Outcome, hooks_of, world_of}
use Rattle.rt_model.specs.Run.{called_once}
use Rattle.rt_model.specs.Removal.{clean_ups, cleaned_by, cleaned_in, stopped}
use Rattle.run_records.specs.Records.{command_of}
use Rattle.run_records.specs.declared.command.Command.{Command as CodeCommand}
use Rattle.run_state.specs.declared.names.Stop.{Stop}
use Rattle.run_state.specs.Mirror.{Unkept, state_of}
use Rattle.run_state.specs.declared.state.State.{State}
use Rattle.rt_scopes.specs.Counts.{CountsOn}
use Rattle.rt_scopes.specs.Outcomes.{CutBy}

module _ {K : Types} (app : Application K) where
  -- one clean-up is called, in a patch or outside of one, and then what follows it
  abbrev pub one_cleaned : Bool → ℕ → K.Effect → (model.State K → List (Command K) → Outcome K) → model.State K → List (Command K) → Outcome K
  one_cleaned patching s e go w waiting = cleaned_by app go (called_once w) waiting (app.effect e (world_of w s None patching))

  -- the removal of a scope whose children are gone, in a patch or outside of one
  abbrev pub removed_where : Bool → model.State K → ℕ → Outcome K
  removed_where patching w s = let v = stopped w s in cleaned_in app patching s (clean_ups (hooks_of v s) []) v []

module _ {K : Types} where
  -- it came to what follows, on this state and with these commands waiting, or was cut
  abbrev pub CameWaiting : Outcome K → (model.State K → List (Command K) → Outcome K) → model.State K → List (Command K)
      → Result (Unit {0}) Stop → Type 0
  CameWaiting outcome go v waiting (Ok u) = outcome ≡ go v waiting
  CameWaiting outcome go v waiting (Err stop) = CutBy outcome v stop

module _ {P C Q V H T E L : Type 0} where
  -- a step that leaves commands that wait came to what follows it, whatever that is
  abbrev pub ComesWaiting : ((model.State (types C Q V H T E L) → List (Command (types C Q V H T E L)) → Outcome (types C Q V H T E L))
      → model.State (types C Q V H T E L) → List (Command (types C Q V H T E L)) → Outcome (types C Q V H T E L))
      → State P C Q V H T E L → ℕ → List (CodeCommand P C Q V H T E L) → State P C Q V H T E L → ℕ → List (CodeCommand P C Q V H T E L)
      → Result (Unit {0}) Stop → Type 0
  ComesWaiting step old old_count before new new_count after result =
      (g : Unkept (types C Q V H T E L))
      → (h : Unkept (types C Q V H T E L))
      × ((go : model.State (types C Q V H T E L) → List (Command (types C Q V H T E L)) → Outcome (types C Q V H T E L))
      → CameWaiting (step go (state_of g old) (map command_of before)) go (state_of h new) (map command_of after) result)
      × CountsOn old_count g.calls new_count h.calls result
