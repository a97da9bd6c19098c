use Rattle.std.proofs.Common.{◌≡◌, length}
use Rattle.std.specs.Prelude.{option_map}
use Rattle.rt_model.specs.Next.{drops, found}
use Rattle.run_state.specs.Mirror.{state_of}
use Rattle.run_state.specs.Names.{work_of}
use Rattle.run_state.proofs.state.State.drop_paused.Given as goal

abbrev pub invariant-loop-task : goal.invariant-loop-task
invariant-loop-task g l = record {
  up : (kept : _) → option_map work_of l.up ≡ found (state_of kept l.self);
  same : (kept : _) → drops (state_of kept l.self).queued (state_of kept l.self) ≡ drops (state_of kept l.fn.self).queued (state_of kept l.fn.self);
}

abbrev pub decreases-loop-task : goal.decreases-loop-task
decreases-loop-task g l = length (l.self.owed).queued
