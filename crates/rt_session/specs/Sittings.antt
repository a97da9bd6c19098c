-- A session whose inputs are drains that come one by one: what holds of it whatever follows.
use Rattle.std.specs.Prelude.{◌≡◌, ◌⊎◌, ℕ, ◌<◌, List, [], ◌∷◌, ◌++◌, length, map, Option, Result, Ok, Err}
use Rattle.rt_edits.specs.declared.edit.Edit.{Edit}
use Rattle.rt_inbox.specs.declared.message.Msg.{Msg}
use Rattle.run_outside.specs.Ends.{Ends, Took}
use Rattle.run_machine.specs.Machines.{IsFresh}
use Rattle.run_machine.specs.Runs.{Runs}
use Rattle.run_outside.specs.Sofar.{Sofar}
use Rattle.run_machine.specs.Stands.{RunsAs}
use Rattle.run_outside.specs.declared.ended.Ended.{Ended}
use Rattle.run_outside.specs.declared.ended.Ended.TheVariants as ends
use Rattle.rt_model.specs.Lists.{joined}
use Rattle.rt_model.specs.Merge.{AreSized, drained}
use Rattle.rt_model.specs.OneLog.{types}
use Rattle.rt_model.specs.Replay as replay
use Rattle.rt_model.specs.Replay.{first_state, ones}
use Rattle.rt_model.specs.World.{Application}
use Rattle.run_reports.specs.Counted.{edits_in}
use Rattle.run_reports.specs.Seen.{limits_of}
use Rattle.run_reports.specs.declared.limits.Limits.{Limits}
use Rattle.run_state.specs.Mirror.{at_first, state_of}
use Rattle.run_state.specs.declared.names.Stop.TheVariants as stops
use Rattle.rt_session.specs.Posted.{drains_of}
use Rattle.rt_session.specs.declared.sitting.Sitting.{Sitting}

-- memory was wanting
abbrev pub IsWanting : Ended → Type 0
IsWanting ended = ended ≡ ends.Run stops.OutOfMemory

-- a drain is kept behind those before, unless memory was wanting
abbrev pub KeepsDrain : (old new : List (List Msg)) → List Msg → Result (Unit {0}) Ended → Type 0
KeepsDrain old new messages (Ok u) = new ≡ old ++ messages ∷ []
KeepsDrain old new messages (Err ended) = IsWanting ended ⊎ (new ≡ old ++ messages ∷ [])

-- the drains hold these messages behind those before, unless memory was wanting
abbrev pub KeepsMessages : (old new : List (List Msg)) → List Msg → Result (Unit {0}) Ended → Type 0
KeepsMessages old new messages (Ok u) = joined new ≡ joined old ++ messages
KeepsMessages old new messages (Err ended) = IsWanting ended ⊎ (joined new ≡ joined old ++ messages)

-- a message stands behind a piece, which is taken in where that makes it full, so that it stays short
abbrev pub AddsMessage : ℕ → (old new : List (List Msg)) → (before after : List Msg) → Msg → Result (Unit {0}) Ended → Type 0
AddsMessage most old new before after message (Ok u) =
    (joined new ++ after ≡ joined old ++ (before ++ message ∷ [])) × (length after < most)
AddsMessage most old new before after message (Err ended) =
    IsWanting ended ⊎ (joined new ≡ joined old ++ (before ++ message ∷ []))

-- drains are added that hold all these messages, or a front of them where it ended; unless memory was wanting
abbrev pub KeepsAll : (old new : List (List Msg)) → List Msg → Result (Unit {0}) Ended → Type 0
KeepsAll old new messages (Ok u) = joined new ≡ joined old ++ messages
KeepsAll old new messages (Err ended) =
    IsWanting ended ⊎ ((rest : List Msg) × (joined new ++ rest ≡ joined old ++ messages))

module _ {P C Q V H T E L : Type 0} (app : Application (types C Q V H T E L)) (props : Q) where
  -- a session that isn't built: no report, no drain
  pub record IsUnbuilt (s : Sitting P C Q V H T E L) : Type 0 where
    pub fresh : IsFresh s.machine
    pub state : state_of at_first ((s.machine).scopes).state ≡ first_state app.root props ones
    pub taken : s.taken ≡ 0
    pub drains : s.drains ≡ []
    pub reports : s.reports ≡ []

module _ {P C Q V H T E L : Type 0} (app : Application (types C Q V H T E L)) (limits : Limits) (props : Q) (before : Option (List Edit))
    (faults : ℕ) (now : Option (List Edit)) (count : ℕ) where
  -- it goes on, whatever inputs follow its drains: the sink took the edits of its reports
  pub record Awaits (s : Sitting P C Q V H T E L) : Type 0 where
    pub runs :
        (more : List (replay.Input (types C Q V H T E L)))
        → Runs app (limits_of limits) props (drained (drains_of s.drains) ++ more) before now s.reports more s.taken s.machine
    pub sofar :
        (more : List (replay.Input (types C Q V H T E L))) → Sofar (drained (drains_of s.drains) ++ more) more s.taken s.reports
    pub took : Took before now faults count (edits_in s.reports)
    pub sized : AreSized limits.drain (drains_of s.drains)

  -- it ended early, and would have whatever inputs had followed its drains
  pub record Ceases (s : Sitting P C Q V H T E L) (ended : Ended) : Type 0 where
    pub runs :
        (more : List (replay.Input (types C Q V H T E L)))
        → RunsAs app (limits_of limits) props (drained (drains_of s.drains) ++ more) before now s.reports (Err ended)
    pub cause : Ends limits (edits_in s.reports) before now faults count ended
    pub sized : AreSized limits.drain (drains_of s.drains)

  -- by what is answered
  abbrev pub TakesIn : {X : Type 0} → Sitting P C Q V H T E L → Result X Ended → Type 0
  TakesIn s (Ok u) = Awaits s
  TakesIn s (Err ended) = Ceases s ended
