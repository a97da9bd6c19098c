-- What one turn beside a list comes to, and what is found of the list then.
use Rattle.std.specs.Prelude.{◌≡◌, ℕ, ◌+◌, ◌⊎◌, nat_eq, if◌then◌else◌, List, ◌++◌, length, Option, Some, None, Result, Ok, Err}
use Rattle.rt_model.specs.Document as doc
use Rattle.rt_model.specs.OneLog.{types}
use Rattle.rt_model.specs.World.{Application}
use Rattle.rt_model.specs.State as model
use Rattle.rt_model.specs.Replay as replay
use Rattle.rt_model.specs.Replay.{Entry}
use Rattle.rt_model.specs.Causes as causes
use Rattle.run_reports.specs.declared.limits.Limits.{Limits}
use Rattle.run_state.specs.declared.names.Stop.TheVariants as stops
use Rattle.run_machine.specs.Machines.{noted}
use Rattle.run_machine.specs.Stands.{Going, StandsAt, Settled}
use Rattle.run_outside.specs.declared.ended.Ended.{Ended}
use Rattle.run_outside.specs.declared.ended.Ended.TheVariants as ends
use Rattle.run_machine.specs.declared.machine.Machine.{Machine}
use Rattle.rt_audit.specs.Fronts.{IsFront, PartsAt, GoesOn}
use Rattle.rt_audit.specs.declared.following.Turn.{Turn}
use Rattle.rt_audit.specs.declared.following.Turn.TheVariants as turns
use Rattle.rt_audit.specs.declared.following.Found.{Found}
use Rattle.rt_audit.specs.declared.following.Found.TheVariants as found

-- no count of units and no height that 64 and 32 bits hold ends a run
abbrev pub boundless : Limits
boundless = record { units = 18446744073709551615; height = 4294967295; drain = 18446744073709551615 }

-- what a turn comes to, by what the machine answers
abbrev pub ComesTo : Result (Option ℕ) Ended → Turn → Type 0
ComesTo (Ok (Some edits)) turn = turn ≡ turns.Moved
ComesTo (Ok None) turn = turn ≡ turns.Rested
ComesTo (Err ends.Sink) turn = ⊥
ComesTo (Err (ends.OutOfTurns units)) turn = ⊥
ComesTo (Err (ends.TooDeep height)) turn = ⊥
ComesTo (Err (ends.Run stops.OutOfMemory)) turn = ⊥
ComesTo (Err (ends.Run (stops.Fault what))) turn = turn ≡ turns.Faulted

-- what is found at rest where so many entries were noted, and the list has so many
abbrev pub at_rest : ℕ → ℕ → ℕ → Found
at_rest good all number = if nat_eq good all then found.Good else found.Bad number

-- the first bad entry is behind so many that come after the opening one
abbrev pub IsBehind : ℕ → Found → Type 0
IsBehind good f = f ≡ found.Bad (good + 1)

-- a list isn't good from the entry of this number on: there other entries were noted; or after a turn that left nothing to do it
-- goes on; or a fault ended the run after all that was noted
pub record IsBad (turn : Turn) (noted list : List Entry) (entry : ℕ) : Type 0 where
  -- how many entries, after the opening one, are good
  pub good : ℕ
  pub number : entry ≡ good + 1
  pub why :
      PartsAt noted list good
      ⊎
      ((turn ≡ turns.Rested) × (good ≡ length noted) × GoesOn noted list)
      ⊎
      ((turn ≡ turns.Faulted) × (good ≡ length noted) × IsFront noted list)

-- what the entries that were noted say of a list, after a turn
abbrev pub Says : Turn → List Entry → List Entry → Found → Type 0
Says turn noted list (found.SoFar count) = (turn ≡ turns.Moved) × (count ≡ length noted) × IsFront noted list
Says turn noted list found.Good = (turn ≡ turns.Rested) × (list ≡ noted)
Says turn noted list (found.Bad entry) = IsBad turn noted list entry

module _ {P C Q V H T E L : Type 0} (app : Application (types C Q V H T E L)) (limits : causes.Limits) (r : Going (types C Q V H T E L))
  where
    -- the entries that were noted are accepted, and the last one came to a fault
    pub record Fell (d : Machine P C Q V H T E L) : Type 0 where
      pub last : replay.Machine (types C Q V H T E L)
      pub fault : model.Fault
      pub accepted : replay.replay_on app (Some r.from) (r.opened ++ noted d) ≡ Some last
      pub dead : last.dead ≡ Some fault

    -- the report stands, with whatever edits
    pub record Stands (d : Machine P C Q V H T E L) : Type 0 where
      pub edits : List doc.Edit
      pub stands : StandsAt app limits r edits d

    -- nothing is left to do
    pub record Rests (d : Machine P C Q V H T E L) : Type 0 where
      pub edits : List doc.Edit
      pub settled : Settled app limits r edits d

    -- what a turn comes to
    abbrev pub TurnsTo : Turn → Machine P C Q V H T E L → Type 0
    TurnsTo turns.Moved d = Stands d
    TurnsTo turns.Rested d = Rests d
    TurnsTo turns.Faulted d = Fell d

    -- the report stands, and so many entries that were noted are the first ones of a list
    pub record Keeps (list : List Entry) (seen : ℕ) (d : Machine P C Q V H T E L) : Type 0 where
      pub stands : Stands d
      pub counted : seen ≡ length (noted d)
      pub front : IsFront (noted d) list
