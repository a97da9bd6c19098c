-- Those that are left and those that are called already are all.
use Rattle.std.proofs.Common.{◌≡◌, ◌++◌, length}
use Rattle.run_outside.proofs.awaiting.Awaiting.of.Given as goal

abbrev pub invariant-loop-item : goal.invariant-loop-item
invariant-loop-item g l = l.rest ++ l.awaiting ≡ l.fn.list

abbrev pub decreases-loop-item : goal.decreases-loop-item
decreases-loop-item g l = length l.rest
