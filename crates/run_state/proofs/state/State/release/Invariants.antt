use Rattle.std.proofs.Common.{◌≡◌, length}
use Rattle.rt_model.specs.Commands.{released}
use Rattle.run_owed.specs.Lists.{numbers_of}
use Rattle.run_state.specs.Mirror.{scopes_of, state_of}
use Rattle.run_state.proofs.Released.{scoped}
use Rattle.run_state.proofs.state.State.release.Given as goal

abbrev pub invariant-loop-boundary : goal.invariant-loop-boundary
invariant-loop-boundary g l = record {
  same : (kept : _) → state_of kept l.self ≡ scoped (state_of kept l.fn.self) (scopes_of (l.self.rows).table);
  done : released (scopes_of (l.self.rows).table) l.task ≡ released (scopes_of (l.fn.self.rows).table) l.task;
  numbers : numbers_of (scopes_of (l.self.rows).table) ≡ numbers_of (scopes_of (l.fn.self.rows).table);
}

abbrev pub decreases-loop-boundary : goal.decreases-loop-boundary
decreases-loop-boundary g l = length l.self.held
