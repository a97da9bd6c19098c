use Rattle.std.proofs.Common.{◌≡◌, drop, map}
use Rattle.rt_model.specs.Removal.{tell_all}
use Rattle.run_records.specs.Records.{source_of}
use Rattle.run_state.specs.Mirror.{state_of}
use Rattle.run_state.proofs.state.State.tell_all.Given as goal

abbrev pub invariant-loop-source : goal.invariant-loop-source
invariant-loop-source g l = (kept : _) → tell_all (state_of kept l.self) (map source_of (drop l.source-index l.sources)) ≡ tell_all (state_of kept l.fn.self) (map source_of l.sources)
