-- Which scopes provide a kind.
use Rattle.std.specs.Prelude.{ℕ, Bool, is_some}
use Rattle.rt_model.specs.Lists.{at}
use Rattle.rt_model.specs.Tree.{Types}
use Rattle.rt_model.specs.State.{Scope}

module _ {K : Types} where
  -- a scope itself provides a kind
  abbrev pub provides : ℕ → Scope K → Bool
  provides kind x = is_some (at x.contexts kind)
