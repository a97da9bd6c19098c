-- What a change leaves as it was of the scopes that it doesn't serve.
use Rattle.std.specs.Prelude.{ℕ, [], ◌∷◌, Some, None, ◌≡◌}
use Rattle.rt_model.specs.Lists.{at}
use Rattle.rt_model.specs.Tree.{Types, VComponent, Place}
use Rattle.rt_model.specs.World.{Application}
use Rattle.rt_model.specs.State.{SideName, Scope, State, Item, Make}
use Rattle.rt_model.specs.Run.{run}
use Rattle.rt_model.specs.Removal.{removed}
use Rattle.rt_model.specs.Replay.{outcome_of}
use Rattle.law_moves.specs.Frames.{Leaves, JoinsO, served_by, made_by}

-- a run changes what shows of its own scope alone, and no scope comes, goes or stands elsewhere
abbrev pub RunsLeave : {K : Types} → Application K → Type 0
RunsLeave {K = K} app = (w : State K) (s : ℕ) → Leaves (s ∷ []) [] w (run app w s)

-- so does what serves an item, but for the scope that it makes
abbrev pub ItemsLeave : {K : Types} → Application K → Type 0
ItemsLeave {K = K} app = (w : State K) (item : Item K) → Leaves (served_by w item) (made_by w item) w (outcome_of app w item)

-- a removal takes its own scope alone
abbrev pub RemovalsLeave : {K : Types} → Application K → Type 0
RemovalsLeave {K = K} app = (w : State K) (t : ℕ) → Leaves (t ∷ []) (t ∷ []) w (removed app w t)

-- a new scope joins its parent's children
abbrev pub MakesJoin : {K : Types} → Application K → Type 0
MakesJoin {K = K} app =
    (w : State K) (s : ℕ) (side : SideName) (p : Place) (c : VComponent K) (x : Scope K)
    → at w.scopes s ≡ Some x
    → at w.scopes w.next_scope ≡ None
    → JoinsO s side p c w x (outcome_of app w (Make s side p c))
