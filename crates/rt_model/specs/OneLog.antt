-- At most one log of each length is accepted.
use Rattle.std.specs.Prelude.{List, length, Some, ◌≡◌}
use Rattle.rt_model.specs.Tree.{Types}
use Rattle.rt_model.specs.World.{Application}
use Rattle.rt_model.specs.Replay.{Entry, Machine, replay_on}

-- the types of an application, one by one
abbrev pub types : Type 0 → Type 0 → Type 0 → Type 0 → Type 0 → Type 0 → Type 0 → Types
types C P V H T E L = record { Component = C; Props = P; Value = V; Handler = H; TaskState = T; Effect = E; Payload = L }

-- two accepted logs of one length, from one replay on, are equal
abbrev pub OneLog : {K : Types} → Application K → Type 0
OneLog {K = K} app =
    (m v u : Machine K) (log other : List Entry)
    → length log ≡ length other
    → replay_on app (Some m) log ≡ Some v
    → replay_on app (Some m) other ≡ Some u
    → log ≡ other
