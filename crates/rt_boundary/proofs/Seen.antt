-- What is seen of a scope's row, at the mirror.
use Rattle.std.proofs.Common.{◌≡◌, ℕ, Option, Some, None, ap, sym}
use Rattle.run_state.proofs.Outputs.{mapped-output}
use Rattle.rt_model.specs.Lists.{at}
use Rattle.rt_model.specs.Tree.{Types}
use Rattle.rt_model.specs.State.{Scope, State, values_of}

module _ {K : Types} where
  -- the present error of a scope that stands is the one of its row
  pub error_there : (w : State K) (s : ℕ) (x : Scope K) → at w.scopes s ≡ Some x → x.error ≡ (values_of w).error s
  error_there w s x found = ap (λ (o : Option (Scope K)). elim o [ None ↦ None | Some y ↦ y.error ]) (sym found)

  -- one that doesn't stand has none
  pub error_gone : (w : State K) (s : ℕ) → at w.scopes s ≡ None → None ≡ (values_of w).error s
  error_gone w s gone = ap (λ (o : Option (Scope K)). elim o [ None ↦ None | Some y ↦ y.error ]) (sym gone)

pub ruleset seen = (mapped-output)
