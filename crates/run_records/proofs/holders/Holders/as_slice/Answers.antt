-- They are the pairs.
use Rattle.std.proofs.Common.{map, ap, ◌∙◌}
use Rattle.run_records.specs.Futures.{holder_of}
use Rattle.run_records.proofs.holders.Holders.as_slice.Goals as goal

pub returns : goal.returns
returns c = record { futures = ap (map holder_of) c.as_slice.ensures.items ∙ c.self.view_is }
