use Rattle.std.proofs.Common.{◌≡◌, ℕ, nat_eq, false, length}
use Rattle.run_state.specs.Effects.{has_rank}
use Rattle.run_state.proofs.mounting.drop_hidden.Given as goal

-- pairs of other scopes stay
abbrev pub invariant-loop-above : goal.invariant-loop-above
invariant-loop-above l = (a s : ℕ) → nat_eq l.scope s ≡ false → has_rank l.hidden a s ≡ has_rank l.initial.hidden a s

abbrev pub decreases-loop-above : goal.decreases-loop-above
decreases-loop-above l = length l.hiders
