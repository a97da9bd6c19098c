-- What a feed comes to, by the child and whether it keeps its output.
use Rattle.std.specs.Prelude.{ℕ, Bool, List, [], ◌∷◌, Option, None, Some, if◌then◌else◌}
use Rattle.rt_model.specs.Tree.{Types, VComponent}
use Rattle.rt_model.specs.World.{Application}
use Rattle.rt_model.specs.State.{State, Outcome, Done}
use Rattle.rt_model.specs.Run.{run}
use Rattle.rt_model.specs.Replay.{Entry, Kept, Fed, with_props}

-- the entry of a feed, by the child and whether it keeps its output; none where there is no child
abbrev pub fed_entries : Option (ℕ × Bool) → List Entry
fed_entries None = []
fed_entries (Some fed) = (if fed.1 then Kept fed.0 else Fed fed.0) ∷ []

module _ {K : Types} (app : Application K) (w : State K) where
  -- what a feed comes to
  abbrev pub fed_outcome : VComponent K → Option (ℕ × Bool) → Outcome K
  fed_outcome c None = Done w []
  fed_outcome c (Some fed) = if fed.1 then Done (with_props app w fed.0 c) [] else run app (with_props app w fed.0 c) fed.0
