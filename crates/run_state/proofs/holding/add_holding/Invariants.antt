use Rattle.std.proofs.Common.{◌≡◌, ◌++◌, length}
use Rattle.rt_model.specs.Commands.{holding}
use Rattle.run_state.specs.Effects.{holds_at}
use Rattle.run_state.specs.Mirror.{scopes_of}
use Rattle.run_state.proofs.HeldPairs.{marks_of}
use Rattle.run_state.proofs.Posts.{with_owed}
use Rattle.run_state.proofs.holding.add_holding.Given as goal

abbrev pub invariant-loop-boundary : goal.invariant-loop-boundary
invariant-loop-boundary g l = record {
  same : l.owed ≡ with_owed l.initial.owed l.owed.posted;
  done : l.owed.posted ++ marks_of (λ s. holds_at (scopes_of l.rows) s l.task) l.left ≡ l.initial.owed.posted ++ holding (scopes_of l.rows) l.task;
}

abbrev pub decreases-loop-boundary : goal.decreases-loop-boundary
decreases-loop-boundary g l = length l.left
