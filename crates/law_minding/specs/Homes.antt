-- Where tasks are at home.
use Rattle.std.specs.Prelude.{ℕ, true, List, Some, ◌≡◌}
use Rattle.rt_model.specs.Lists.{at}
use Rattle.rt_model.specs.Laws.{IsLawful}
use Rattle.rt_model.specs.Tree.{Types}
use Rattle.rt_model.specs.World.{Application}
use Rattle.rt_model.specs.State.{TaskRow, is_live}
use Rattle.rt_model.specs.Replay.{Input, Machine, start}
use Rattle.rt_model.specs.Causes.{Limits}
use Rattle.law_moves.specs.Moves.{Move, Leads}

module _ {K : Types} where
  -- at each machine that moves reach from a replay's start the scope of a task that is there is live
  abbrev pub HomesAreLive : Application K → Type 0
  HomesAreLive app =
      IsLawful K app
      → (limits : Limits) (props : K.Props) (inputs : List (Input K)) (m : Machine K) (moves : List Move)
      → Leads app limits (start app props inputs) moves m
      → (t : ℕ) (task : TaskRow K)
      → at m.state.tasks t ≡ Some task
      → is_live m.state task.scope ≡ true
