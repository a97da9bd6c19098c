-- What is told of a unit: its first entry, the work that it led to, and its end or the refusal that stopped it.
use Rattle.std.specs.Prelude.{true, false, List, [], ◌∷◌, ◌++◌, Option, Some, None, ◌≡◌}
use Rattle.rt_model.specs.Tree.{Types}
use Rattle.rt_model.specs.World.{Application}
use Rattle.rt_model.specs.State.{Fault, State, Item}
use Rattle.rt_model.specs.Replay.{Entry, Machine, mounted_state}
use Rattle.rt_model.specs.Document.{Edit}
use Rattle.rt_model.specs.Caused.{caused, caused_until}
use Rattle.rt_model.specs.Causes.{Limits, first_item, refusal, replay_within, edits_at_refusal}
use Rattle.rt_model.specs.Told.{Telling, opens, closed_unit, tell_log}
use Rattle.law_moves.specs.Moves.{Move, Logged, entries, InOneUnit, busy, IsSettled, AtWork, Moves, Leads}
use Rattle.law_moves.specs.Words.{Goes}

module _ {K : Types} where
  -- the machine after a unit whose work is served: all that is shown is mounted, and nothing is at work
  abbrev pub ended_unit : Machine K → State K → Machine K
  ended_unit u w = record u { state = mounted_state w; work = []; unit = false }

  -- what is told so far, and one more unit, with its edits
  abbrev pub with_unit : Telling K → Entry → Machine K → List Edit → Telling K
  with_unit t first v edits = record t { machine = v; before = t.machine.state; first = first; edits = t.edits ++ edits }

  -- the item that was refused: the one whose change was cut, or the make that is too deep
  abbrev pub refused_item : Machine K → Option (Item K)
  refused_item v = elim v.dead [ None ↦ first_item v.work | Some fault ↦ v.refused ]

module _ {K : Types} (app : Application K) where
  -- what is told after a unit, or in its midst, by its first entry and its last machine
  abbrev pub unit_told : Telling K → Entry → Machine K → Telling K
  unit_told t first v = closed_unit app (record t { before = t.machine.state; first = first }) true v

  -- of one unit, up to its end or to a refusal, just that is told
  abbrev pub UnitIsTold : Type 0
  UnitIsTold =
      (limits : Limits) (m u v : Machine K) (first : Entry) (moves : List Move) (t : Telling K)
      → t.machine ≡ m
      → opens first ≡ true
      → Moves app limits m (Logged first) u
      → u.unit ≡ true
      → Leads app limits u moves v
      → InOneUnit moves
      → IsSettled v
      → tell_log app (Some t) (first ∷ entries moves) ≡ Some (unit_told t first v)

  -- a unit whose work is served is accepted, and its edits are those between the state before it and the last one
  abbrev pub UnitEnds : Type 0
  UnitEnds =
      (limits : Limits) (m u : Machine K) (w : State K) (first : Entry) (log : List Entry) (t : Telling K)
      → t.machine ≡ m
      → opens first ≡ true
      → Moves app limits m (Logged first) u
      → AtWork u
      → Goes app limits u [] log (busy u w [])
      → (replay_within app limits (Some m) (first ∷ log) ≡ Some (ended_unit u w))
      ×
      (tell_log app (Some t) (first ∷ log) ≡ Some (with_unit t first (ended_unit u w) (caused app m.state (mounted_state w) first)))

  -- a unit that a refusal stopped is accepted up to there, and its edits are those up to the item that was refused
  abbrev pub UnitStops : Type 0
  UnitStops =
      (limits : Limits) (m u v : Machine K) (first : Entry) (log : List Entry) (fault : Fault) (t : Telling K)
      → t.machine ≡ m
      → opens first ≡ true
      → Moves app limits m (Logged first) u
      → u.unit ≡ true
      → Goes app limits u [] log v
      → IsSettled v
      → refusal limits v ≡ Some fault
      → (replay_within app limits (Some m) (first ∷ log) ≡ Some v)
      ×
      (tell_log app (Some t) (first ∷ log) ≡ Some (unit_told t first v))
      ×
      (edits_at_refusal app limits (unit_told t first v) ≡ t.edits ++ caused_until app m.state v.state (refused_item v) first)
