-- What a turn leaves of the log and of listeners, and where units are spent.
use Rattle.std.specs.Prelude.{◌≡◌, ◌⊎◌, ℕ, true, false, [], ◌∷◌, ◌++◌, Option, Some, None, Result, Ok, Err, IfErr}
use Rattle.rt_model.specs.OneLog.{types}
use Rattle.rt_model.specs.State as model
use Rattle.rt_model.specs.Next.{at_rest}
use Rattle.rt_model.specs.Replay as replay
use Rattle.rt_model.specs.Told.{opens}
use Rattle.run_state.specs.Mirror.{Unkept, state_of}
use Rattle.run_outside.specs.Ends.{fault_in}
use Rattle.run_machine.specs.Machines.{noted}
use Rattle.run_outside.specs.declared.ended.Ended.{Ended}
use Rattle.run_machine.specs.declared.machine.Machine.{Machine}

-- by what is answered: of each turn, but where memory was wanting or the sink failed
abbrev pub UnlessBroke : Result (Option ℕ) Ended → Type 0 → Type 0
UnlessBroke (Ok turn) fact = fact
UnlessBroke (Err ended) fact = (fault : model.Fault) → fault_in ended ≡ Some fault → fact

module _ {P C Q V H T E L : Type 0} where
  -- one entry was written down; one that begins a unit only where nothing was at work
  pub record LogsOne (old new : Machine P C Q V H T E L) : Type 0 where
    pub entry : replay.Entry
    pub logged : noted new ≡ noted old ++ entry ∷ []
    pub alone : opens entry ≡ true → (old.work ≡ []) × (old.first ≡ None)

  -- at most one entry was written down
  abbrev pub Logs : Machine P C Q V H T E L → Machine P C Q V H T E L → Type 0
  Logs old new = (noted new ≡ noted old) ⊎ LogsOne old new

  -- one entry was written down that begins no unit
  pub record LogsLater (old new : Machine P C Q V H T E L) : Type 0 where
    pub entry : replay.Entry
    pub logged : noted new ≡ noted old ++ entry ∷ []
    pub later : opens entry ≡ false

  -- units were spent where nothing was at work: nothing was written down, and the state is as the test for what is next left it
  pub record Spends (old new : Machine P C Q V H T E L) : Type 0 where
    pub work : old.work ≡ []
    pub over : old.first ≡ None
    pub logged : noted new ≡ noted old
    pub idle : new.work ≡ []
    pub done : new.first ≡ None
    pub state : (g : Unkept (types C Q V H T E L)) → state_of g (new.scopes).state ≡ at_rest (state_of g (old.scopes).state)

  -- a turn
  pub record TurnKeeps (old new : Machine P C Q V H T E L) (result : Result (Option ℕ) Ended) : Type 0 where
    pub logs : UnlessBroke result (Logs old new)
    -- no listener joins, and only a listener prevents the default
    pub silent : old.hearing ≡ None → (new.hearing ≡ None) × (new.default_enabled ≡ old.default_enabled)
    pub spent : IfErr result (λ ended. (units : ℕ) → fault_in ended ≡ Some (model.OutOfTurns units) → Spends old new)

  -- a turn where something is at work
  pub record WorkKeeps (old new : Machine P C Q V H T E L) (result : Result (Option ℕ) Ended) : Type 0 where
    pub logs : UnlessBroke result ((noted new ≡ noted old) ⊎ LogsLater old new)
    pub hearing : new.hearing ≡ old.hearing
    pub default_enabled : new.default_enabled ≡ old.default_enabled
    -- units are spent only where nothing is at work
    pub unspent : IfErr result (λ ended. (units : ℕ) → fault_in ended ≡ Some (model.OutOfTurns units) → ⊥)
