-- What shows has no number twice.
use Rattle.std.specs.Prelude.{ℕ, ◌≤◌, List, Some, ◌≡◌}
use Rattle.rt_model.specs.Tree.{Types}
use Rattle.rt_model.specs.World.{Application}
use Rattle.rt_model.specs.Laws.{IsLawful}
use Rattle.rt_model.specs.Replay.{Entry, Input, Machine, replay}
use Rattle.rt_model.specs.Document.{Forest, count_of}
use Rattle.rt_model.specs.View.{view}

-- every number in these nodes stands once, and none is 0
pub record NumbersOnce (nodes : Forest) : Type 0 where
  pub once : (i : ℕ) → count_of i nodes ≤ 1
  pub none_is_0 : count_of 0 nodes ≡ 0

-- what shows after an accepted log has each number once, and none is 0
abbrev pub ShownOnce : {K : Types} → Application K → Type 0
ShownOnce {K = K} app =
    IsLawful K app
    → (props : K.Props) (inputs : List (Input K)) (log : List Entry) (m : Machine K)
    → replay app props inputs log ≡ Some m
    → NumbersOnce (view m.state)
