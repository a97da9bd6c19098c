use Rattle.std.proofs.Common.{◌≡◌, drop}
use Rattle.rt_model.specs.Removal.{tell_all, context_sources}
use Rattle.run_state.specs.Mirror.{state_of}
use Rattle.run_state.proofs.state.State.tell_kinds.Given as goal

abbrev pub invariant-loop-kind : goal.invariant-loop-kind
invariant-loop-kind g l =
    (kept : _) → tell_all (state_of kept l.self) (context_sources l.scope (drop l.kind-index l.kinds)) ≡ tell_all (state_of kept l.fn.self) (context_sources l.scope l.kinds)
