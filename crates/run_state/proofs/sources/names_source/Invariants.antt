use Rattle.std.proofs.Common.{◌≡◌, map, drop}
use Rattle.rt_model.specs.Commands.{names_source}
use Rattle.run_records.specs.Records.{source_of}
use Rattle.run_state.proofs.sources.names_source.Given as goal

abbrev pub invariant-loop-named : goal.invariant-loop-named
invariant-loop-named l = names_source (map source_of l.sources) (source_of l.source) ≡ names_source (map source_of (drop l.named-index l.sources)) (source_of l.source)
