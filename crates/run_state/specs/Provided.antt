-- What a scope provides already.
use Rattle.std.specs.Prelude.{ℕ, Bool, false, Option, Some, None, option_map}
use Rattle.rt_model.specs.Lists.{at}
use Rattle.rt_model.specs.Tree.{Types}
use Rattle.rt_model.specs.World.{Application}
use Rattle.rt_model.specs.State.{Scope, State}

module _ {K : Types} where
  module _ (app : Application K) where
    -- whether the value of a kind that stands there is this one
    abbrev pub is_provided : K.Value → Option K.Value → Bool
    is_provided v None = false
    is_provided v (Some old) = app.same_value old v

    -- whether a live scope provides this value of a kind already
    abbrev pub provides_now : State K → ℕ → ℕ → K.Value → Option Bool
    provides_now w s k v = option_map (λ (x : Scope K). is_provided v (at x.contexts k)) (at w.scopes s)
