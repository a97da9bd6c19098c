-- Those that are left and live are those that were, whatever was taken off.
use Rattle.std.proofs.Common.{◌≡◌, length, reverse}
use Rattle.run_state.specs.Mirror.{state_of}
use Rattle.rt_scopes.specs.Knowing.{live_of}
use Rattle.rt_scopes.proofs.going.first_left.Given as goal

abbrev pub invariant-loop-scope : goal.invariant-loop-scope
invariant-loop-scope g l = (kept : _) → live_of (state_of kept l.state) (reverse l.left) ≡ live_of (state_of kept l.state) (reverse l.initial.left)

abbrev pub decreases-loop-scope : goal.decreases-loop-scope
decreases-loop-scope g l = length l.left
