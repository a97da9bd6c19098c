use Rattle.std.proofs.Common.{◌≡◌, drop, map}
use Rattle.rt_model.specs.Removal.{kinds_in}
use Rattle.run_records.specs.Records.{source_of}
use Rattle.run_state.proofs.removal.add_kinds.Given as goal

abbrev pub invariant-loop-source : goal.invariant-loop-source
invariant-loop-source l = kinds_in l.scope (map source_of (drop l.source-index l.sources)) l.kinds.items ≡ kinds_in l.scope (map source_of l.sources) l.initial.kinds.items
