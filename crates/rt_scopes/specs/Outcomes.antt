-- What a change of the state came to, as the definitions say it.
use Rattle.std.specs.Prelude.{◌≡◌, ℕ, List, [], Result, Ok, Err}
use Rattle.rt_model.specs.Tree.{Types}
use Rattle.rt_model.specs.OneLog.{types}
use Rattle.rt_model.specs.State as model
use Rattle.rt_model.specs.State.{Outcome, Done, Cut, Item}
use Rattle.run_state.specs.declared.names.Stop.{Stop}
use Rattle.run_state.specs.declared.names.Stop.TheVariants as stops
use Rattle.run_state.specs.declared.state.State.{State}
use Rattle.run_state.specs.Mirror.{Unkept, state_of}
use Rattle.run_state.specs.Names.{fault_of}
use Rattle.run_records.specs.declared.faults.CxFault.{CxFault}
use Rattle.run_records.specs.declared.faults.CxFault.TheVariants as refusals
use Rattle.run_state.specs.declared.names.Cause.TheVariants as faults
use Rattle.rt_scopes.specs.Counts.{CountsOn}

-- what a refusal of a call leads to
abbrev pub stop_of : CxFault → Stop
stop_of refusals.OutOfMemory = stops.OutOfMemory
stop_of (refusals.IdsExhausted what) = stops.Fault (faults.IdsExhausted what)
stop_of (refusals.HookChanged scope index kept asked) = stops.Fault (faults.HookChanged scope.0 index kept asked)

-- nothing is to be done
abbrev pub no_work : {X A : Type 0} → A → List X
no_work answer = []

module _ {K : Types} where
  -- it was cut by this fault, and left this state; where memory was wanting nothing is said
  abbrev pub CutBy : Outcome K → model.State K → Stop → Type 0
  CutBy outcome new stops.OutOfMemory = Unit {0}
  CutBy outcome new (stops.Fault what) = outcome ≡ Cut new (fault_of what)

  -- it was done, with this work, or cut, and left this state
  abbrev pub Came : {A : Type 0} → Outcome K → model.State K → (A → List (Item K)) → Result A Stop → Type 0
  Came outcome new work (Ok answer) = outcome ≡ Done new (work answer)
  Came outcome new work (Err stop) = CutBy outcome new stop

module _ {P C Q V H T E L : Type 0} where
  -- from the old state, with whatever it has that code doesn't keep, a change came to the new one
  abbrev pub StateComes : {A : Type 0} → (model.State (types C Q V H T E L) → Outcome (types C Q V H T E L)) → State P C Q V H T E L
      → State P C Q V H T E L → (A → List (Item (types C Q V H T E L))) → Result A Stop → Type 0
  StateComes change old new work result =
      (g : Unkept (types C Q V H T E L)) → (h : Unkept (types C Q V H T E L)) × Came (change (state_of g old)) (state_of h new) work result

  -- so it did, and the count of the application's calls, before and after it, goes on standing for those that the definitions count
  abbrev pub Comes : {A : Type 0} → (model.State (types C Q V H T E L) → Outcome (types C Q V H T E L)) → State P C Q V H T E L → ℕ
      → State P C Q V H T E L → ℕ → (A → List (Item (types C Q V H T E L))) → Result A Stop → Type 0
  Comes change old old_count new new_count work result =
      (g : Unkept (types C Q V H T E L))
      → (h : Unkept (types C Q V H T E L))
      × Came (change (state_of g old)) (state_of h new) work result
      × CountsOn old_count g.calls new_count h.calls result
