-- Those so far and those that are left are all that are live.
use Rattle.std.proofs.Common.{◌≡◌, ◌++◌, length}
use Rattle.std.specs.Vec.Iter.{into_iter_items, into_iter_len}
use Rattle.run_state.specs.Mirror.{state_of}
use Rattle.run_shown.specs.Hearing.{listeners_of}
use Rattle.run_outside.specs.Hearings.{live_listeners}
use Rattle.run_outside.proofs.input.live_ones.Given as goal

abbrev pub invariant-loop-listener : goal.invariant-loop-listener
invariant-loop-listener g l = record {
  done : (kept : _) →
      listeners_of l.live ++ live_listeners (state_of kept l.state) (listeners_of (into_iter_items l.listener-iterator)) ≡ live_listeners (state_of kept l.state) (listeners_of l.fn.listeners);
  count : into_iter_len l.listener-iterator ≡ length (into_iter_items l.listener-iterator);
}
