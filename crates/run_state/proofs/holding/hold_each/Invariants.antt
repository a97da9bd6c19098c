use Rattle.std.proofs.Common.{◌≡◌, ◌++◌, drop}
use Rattle.rt_model.specs.Commands.{holding}
use Rattle.run_state.specs.Mirror.{scopes_of}
use Rattle.run_state.proofs.Posts.{with_owed}
use Rattle.run_state.proofs.holding.hold_each.Given as goal

abbrev pub invariant-loop-entry : goal.invariant-loop-entry
invariant-loop-entry g l = record {
  same : l.owed ≡ with_owed l.initial.owed l.owed.posted;
  done : l.owed.posted ++ holding (scopes_of (drop l.entry-index l.scopes)) l.task ≡ l.initial.owed.posted ++ holding (scopes_of l.scopes) l.task;
}
