use Rattle.std.proofs.Common.{◌≡◌, ◌∙◌, ap, map}
use Rattle.std.specs.Prelude.{reverse}
use Rattle.run_records.specs.Records.{source_of}
use Rattle.run_state.proofs.Newest.{newest-is}
use Rattle.run_state.proofs.sources.newest_first.Goals as goal

pub returns : goal.returns
returns c = ap (map source_of) (c.from_vec.ensures.items ∙ c.reverse.ensures.items ∙ ap reverse c.into_vec-items.ensures.items) ∙ newest-is source_of c.args.reads
