use Rattle.std.proofs.Common.{◌≡◌, drop}
use Rattle.rt_model.specs.Replay.{post_all}
use Rattle.run_state.specs.Mirror.{scopes_of, state_of}
use Rattle.run_state.proofs.state.State.post_all.Given as goal

abbrev pub invariant-loop-index : goal.invariant-loop-index
invariant-loop-index g l = record {
  rows : l.self.rows ≡ l.fn.self.rows;
  done : (kept : _) → post_all (scopes_of (drop l.index (l.fn.self.rows).table)) (state_of kept l.self) ≡ post_all (scopes_of (l.fn.self.rows).table) (state_of kept l.fn.self);
}
