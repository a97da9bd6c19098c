-- What holds of fine moves and of the logs that they leave.
use Rattle.std.specs.Prelude.{ℕ, List, Some, ◌≡◌, ◌≤◌}
use Rattle.rt_model.specs.Tree.{Types}
use Rattle.rt_model.specs.World.{Application}
use Rattle.rt_model.specs.State.{Fault}
use Rattle.rt_model.specs.Replay.{Entry, Machine, rows_left, served, settled, closed, replay_on}
use Rattle.rt_model.specs.Causes.{Limits, refusal, replay_within, ComesTo}
use Rattle.rt_model.specs.Told.{Telling, tell_log}
use Rattle.law_moves.specs.Moves.{Move, entries, IsSettled, Moves, Leads}

module _ {K : Types} (app : Application K) where
  -- as many steps as the open work's rows suffice, more change nothing, and then no silent item comes first
  abbrev pub FuelSuffices : Type 0
  FuelSuffices =
      (n k : ℕ) (m : Machine K)
      → rows_left m.work ≤ n
      → rows_left m.work ≤ k
      → (served app n m ≡ served app k m) × IsSettled (closed (served app n m))

  -- from each machine at most one move goes on, to one machine
  abbrev pub OneMove : Type 0
  OneMove =
      (limits : Limits) (m : Machine K) (move other : Move) (u v : Machine K)
      → Moves app limits m move u
      → Moves app limits m other v
      → (move ≡ other) × (u ≡ v)

  -- the entries of moves up to a settled machine are accepted, within limits and without, and lead there; a fault may have ended it
  abbrev pub MovesAreAccepted : Type 0
  MovesAreAccepted =
      (limits : Limits) (m v : Machine K) (moves : List Move)
      → Leads app limits m moves v
      → IsSettled v
      → (replay_within app limits (Some (settled app m)) (entries moves) ≡ Some v)
      ×
      (replay_on app (Some (settled app m)) (entries moves) ≡ Some v)

  -- they are told too, and what is told is of that machine
  abbrev pub MovesAreTold : Type 0
  MovesAreTold =
      (limits : Limits) (m v : Machine K) (moves : List Move) (t : Telling K)
      → Leads app limits m moves v
      → IsSettled v
      → t.machine ≡ settled app m
      → (last : Telling K) × (tell_log app (Some t) (entries moves) ≡ Some last) × (last.machine ≡ v)

  -- conversely each accepted log is the entries of moves
  abbrev pub LogsAreMoves : Type 0
  LogsAreMoves =
      (limits : Limits) (m v : Machine K) (log : List Entry)
      → IsSettled m
      → replay_within app limits (Some m) log ≡ Some v
      → (moves : List Move) × Leads app limits m moves v × (entries moves ≡ log)

  -- moves that a refusal stopped came to that fault
  abbrev pub StopsComeTo : Type 0
  StopsComeTo =
      (limits : Limits) (m u : Machine K) (moves : List Move) (fault : Fault)
      → Leads app limits m moves u
      → IsSettled u
      → refusal limits u ≡ Some fault
      → ComesTo app limits (settled app m) (entries moves) fault
