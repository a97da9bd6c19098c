-- All are live exactly where all that are left are.
use Rattle.std.proofs.Common.{◌≡◌, drop}
use Rattle.run_state.specs.Mirror.{state_of}
use Rattle.run_outside.specs.Among.{are_live}
use Rattle.run_outside.proofs.input.are_live.Given as goal

abbrev pub invariant-loop-index : goal.invariant-loop-index
invariant-loop-index g l = (kept : _) → are_live (state_of kept l.state) (drop l.index l.scopes) ≡ are_live (state_of kept l.state) l.scopes
