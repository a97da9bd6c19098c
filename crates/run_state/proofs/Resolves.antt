-- The state with another list of boundaries that turned to their children.
use Rattle.std.specs.Prelude.{ℕ, List}
use Rattle.rt_model.specs.Tree.{Types}
use Rattle.rt_model.specs.State.{State}

module _ {K : Types} where
  abbrev pub with_resolved : State K → List ℕ → State K
  with_resolved w rs = record w { resolved = rs }
