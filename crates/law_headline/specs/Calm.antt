-- The entries that change nothing that shows.
use Rattle.std.specs.Prelude.{ℕ, Bool, true, false, [], ◌≡◌}
use Rattle.rt_model.specs.Lists.{at}
use Rattle.rt_model.specs.Tree.{Types}
use Rattle.rt_model.specs.World.{Application}
use Rattle.rt_model.specs.Replay.{Entry, Taken, Heard, Poll, Effects, Machine, change_by}
use Rattle.law_moves.specs.Frames.{shown}

-- inputs, listeners, polls, effects
abbrev pub is_calm : Entry → Bool
is_calm (Taken k) = true
is_calm (Heard s) = true
is_calm (Poll t) = true
is_calm (Effects s) = true
is_calm _ = false

-- after such an entry each scope shows what it showed
abbrev pub CalmEntriesLeave : {K : Types} → Application K → Type 0
CalmEntriesLeave {K = K} app =
    (m : Machine K) (e : Entry)
    → is_calm e ≡ true
    → (t : ℕ)
    → shown (at (change_by app m [] e).state.scopes t) ≡ shown (at m.state.scopes t)
