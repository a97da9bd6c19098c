-- Some listener waits exactly where one of those left does.
use Rattle.std.proofs.Common.{◌≡◌, drop}
use Rattle.run_state.specs.Mirror.{state_of}
use Rattle.run_shown.specs.Hearing.{listeners_of}
use Rattle.run_outside.specs.Hearings.{has_waiting}
use Rattle.run_outside.proofs.input.has_live.Given as goal

abbrev pub invariant-loop-listener : goal.invariant-loop-listener
invariant-loop-listener g l =
    (kept : _)
    → has_waiting (state_of kept l.state) (listeners_of (drop l.listener-index l.listeners)) ≡ has_waiting (state_of kept l.state) (listeners_of l.listeners)
