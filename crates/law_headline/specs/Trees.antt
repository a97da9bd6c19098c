-- Where the scopes are a tree by their heights, what each shows is what its side shows with what its child scopes show.
use Rattle.rt_model.specs.Tree.{Types}
use Rattle.rt_model.specs.State.{State}
use Rattle.law_moves.specs.Trees.{IsUnfolded, IsTree}

-- no way down such a tree is longer than there are scopes
abbrev pub TreesUnfold : Types → Type 0
TreesUnfold K = (w : State K) → IsTree w → IsUnfolded w
