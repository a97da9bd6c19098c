-- What is owed, as the definitions have it.
use Rattle.std.specs.Prelude.{ℕ, List, []}
use Rattle.rt_model.specs.Lists.{has, kept_by}
use Rattle.rt_model.specs.State.{Posted}
use Rattle.run_owed.specs.Lists.{joins, marks_in, numbers_of, wakes_in}

-- what is owed, and of which scopes and tasks it can be
pub record Owing : Type 0 where
  -- in the order of posting, a thing as often as it was posted
  pub posted : List Posted
  -- the scopes that the last look left, each once
  pub seen : List ℕ
  -- the tasks that it left, each once
  pub queued : List ℕ
  -- the entered scopes with their heights, in the order of their entering
  pub scopes : List (ℕ × ℕ)
  -- the entered tasks with their scopes
  pub tasks : List (ℕ × ℕ)

-- nothing is entered, and nothing is owed
abbrev pub nothing : Owing
nothing = record { posted = []; seen = []; queued = []; scopes = []; tasks = [] }

-- of some numbers those that are entered
abbrev pub living : List (ℕ × ℕ) → List ℕ → List ℕ
living entered ns = kept_by (λ n. has (numbers_of entered) n) ns

-- all that is posted becomes seen or queued, once each; what is gone is passed over
abbrev pub looked : Owing → Owing
looked o = record o {
  posted = [];
  seen = joins o.seen (living o.scopes (marks_in o.posted));
  queued = joins o.queued (living o.tasks (wakes_in o.posted));
}
