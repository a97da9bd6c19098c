-- A report of several units, entry by entry and unit by unit.
use Rattle.std.specs.Prelude.{true, false, List, [], ◌∷◌, ◌++◌, Some, None, ◌≡◌}
use Rattle.rt_model.specs.Tree.{Types}
use Rattle.rt_model.specs.World.{Application}
use Rattle.rt_model.specs.State.{Fault, State}
use Rattle.rt_model.specs.Replay.{Entry, Machine, mounted_state, replay_on}
use Rattle.rt_model.specs.Caused.{caused, caused_until}
use Rattle.rt_model.specs.Causes.{Limits, refusal, replay_within, edits_at_refusal}
use Rattle.rt_model.specs.Told.{Telling, opens, telling, tell_log}
use Rattle.law_moves.specs.Moves.{Logged, busy, IsSettled, AtWork, Moves}
use Rattle.law_moves.specs.Words.{Goes}
use Rattle.law_moves.specs.Units.{ended_unit, with_unit, refused_item, unit_told}

module _ {K : Types} (app : Application K) where
  -- a log goes on from where another one ended
  abbrev pub LogsJoin : Type 0
  LogsJoin =
      (limits : Limits) (log more : List Entry)
      → ((m v : Machine K)
      → replay_within app limits (Some m) log ≡ Some v
      → replay_within app limits (Some m) (log ++ more) ≡ replay_within app limits (Some v) more)
      ×
      ((m v : Machine K)
      → replay_on app (Some m) log ≡ Some v
      → replay_on app (Some m) (log ++ more) ≡ replay_on app (Some v) more)
      ×
      ((t u : Telling K) → tell_log app (Some t) log ≡ Some u → tell_log app (Some t) (log ++ more) ≡ tell_log app (Some u) more)

  -- a report so far: its log is accepted within limits, and this is told of it
  pub record ToldSo (limits : Limits) (from : Machine K) (log : List Entry) (t : Telling K) : Type 0 where
    pub accepted : replay_within app limits (Some from) log ≡ Some t.machine
    pub told : tell_log app (Some (telling from)) log ≡ Some t

  -- at its start nothing is told
  abbrev pub ReportStarts : Type 0
  ReportStarts = (limits : Limits) (from : Machine K) → ToldSo limits from [] (telling from)

  -- an input that is taken in, or a listener that is called, adds no edit
  abbrev pub EntryFollows : Type 0
  EntryFollows =
      (limits : Limits) (from u : Machine K) (log : List Entry) (t : Telling K) (e : Entry)
      → ToldSo limits from log t
      → opens e ≡ false
      → t.machine.unit ≡ false
      → Moves app limits t.machine (Logged e) u
      → IsSettled u
      → u.dead ≡ None
      → ToldSo limits from (log ++ e ∷ []) (record t { machine = u })

  -- a unit whose work is served adds its edits
  abbrev pub UnitFollows : Type 0
  UnitFollows =
      (limits : Limits) (from u : Machine K) (w : State K) (log more : List Entry) (t : Telling K) (first : Entry)
      → ToldSo limits from log t
      → opens first ≡ true
      → Moves app limits t.machine (Logged first) u
      → AtWork u
      → Goes app limits u [] more (busy u w [])
      → ToldSo
      limits
      from
      (log ++ first ∷ more)
      (with_unit t first (ended_unit u w) (caused app t.machine.state (mounted_state w) first))

  -- a unit that a refusal stopped ends the report, with its edits up to the item that was refused
  abbrev pub RefusalFollows : Type 0
  RefusalFollows =
      (limits : Limits) (from u v : Machine K) (log more : List Entry) (fault : Fault) (t : Telling K) (first : Entry)
      → ToldSo limits from log t
      → opens first ≡ true
      → Moves app limits t.machine (Logged first) u
      → u.unit ≡ true
      → Goes app limits u [] more v
      → IsSettled v
      → refusal limits v ≡ Some fault
      → ToldSo limits from (log ++ first ∷ more) (unit_told app t first v)
      ×
      (edits_at_refusal app limits (unit_told app t first v) ≡ t.edits ++ caused_until app t.machine.state v.state (refused_item v) first)

  -- a report goes on entry by entry and unit by unit
  abbrev pub ReportsGoOn : Type 0
  ReportsGoOn = ReportStarts × EntryFollows × UnitFollows × RefusalFollows
