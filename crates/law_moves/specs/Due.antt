-- The test for what is live refuses no entry.
use Rattle.std.specs.Prelude.{List, ◌≡◌}
use Rattle.rt_model.specs.Tree.{Types}
use Rattle.rt_model.specs.World.{Application}
use Rattle.rt_model.specs.Laws.{IsLawful}
use Rattle.rt_model.specs.Replay.{Input, Machine, due_any, due}
use Rattle.rt_model.specs.Causes.{Limits}
use Rattle.law_moves.specs.Reached.{Reached}

-- of a lawful application, wherever moves lead: what comes next names what is live, so it is due
abbrev pub DueIsAny : {K : Types} → Application K → Type 0
DueIsAny {K = K} app =
    IsLawful K app
    → (limits : Limits) (props : K.Props) (inputs : List (Input K)) (m : Machine K)
    → Reached app limits props inputs m
    → due app m ≡ due_any app m
