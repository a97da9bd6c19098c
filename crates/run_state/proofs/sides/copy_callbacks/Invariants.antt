use Rattle.std.proofs.Common.{◌≡◌, ◌++◌, drop}
use Rattle.run_state.proofs.sides.copy_callbacks.Given as goal

abbrev pub invariant-loop-callback : goal.invariant-loop-callback
invariant-loop-callback g l = l.copied ++ drop l.callback-index l.callbacks ≡ l.callbacks
