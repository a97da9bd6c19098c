-- A rerun from its entry to its end.
use Rattle.std.specs.Prelude.{ℕ, List}
use Rattle.rt_model.specs.Tree.{Types}
use Rattle.rt_model.specs.World.{Application}
use Rattle.rt_model.specs.Replay.{Rerun, Input, Machine}
use Rattle.rt_model.specs.Causes.{Limits}
use Rattle.law_moves.specs.Moves.{Move, Inside, IsLogged, IsClosed, Leads}
use Rattle.law_moves.specs.Reached.{Reached}

module _ {K : Types} (app : Application K) where
  -- from a machine that moves reach a scope is rerun, all work that this leads to is served, and the unit ends
  pub record Reruns (limits : Limits) (props : K.Props) (inputs : List (Input K)) (m : Machine K) (s : ℕ) (v : Machine K) : Type 0 where
    -- the machine after the entry
    pub begun : Machine K
    -- the machine whose work is served
    pub served : Machine K
    pub moves : List Move
    pub reached : Reached app limits props inputs m
    pub logged : IsLogged app limits m (Rerun s) begun
    pub leads : Leads app limits begun moves served
    pub inside : Inside moves
    pub closed : IsClosed served v
