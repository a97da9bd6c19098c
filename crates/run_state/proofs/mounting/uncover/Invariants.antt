use Rattle.std.proofs.Common.{◌≡◌, ℕ, List, length, true}
use Rattle.run_state.specs.Mounts.{Way, covers}
use Rattle.run_state.proofs.mounting.uncover.Given as goal

-- what was covered is
abbrev pub invariant-loop-scope : goal.invariant-loop-scope
invariant-loop-scope l = (ways : List (ℕ × Way)) (height s : ℕ) → covers ways l.initial.fresh l.initial.hidden height s ≡ true → covers ways l.fresh l.hidden height s ≡ true

abbrev pub decreases-loop-scope : goal.decreases-loop-scope
decreases-loop-scope l = length l.hidden
