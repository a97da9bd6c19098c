-- No task, no pair.
use Rattle.std.proofs.Common.{map, ap}
use Rattle.run_records.specs.Futures.{holder_of}
use Rattle.rt_lemmas.proofs.Lists.{none_mapped}
use Rattle.run_records.proofs.holders.Holders.is_empty.Goals as goal

pub returns : goal.returns
returns c =
    record {
      empty = rw (← c.self.view_is) (
        (λ yes. ap (map holder_of) (c.is_empty.ensures.empty.0 yes)),
        (λ none. c.is_empty.ensures.empty.1 (none_mapped holder_of c.self.inside.futures none)),
      );
    }
