use Rattle.run_places.proofs.Agreed.{agrees_none}
use Rattle.run_places.proofs.pairs.Pairs.new.Goals as goal

pub invariant_of-result : goal.invariant_of-result
invariant_of-result c = rw (c.new.ensures.items, c.new-2.ensures.items) agrees_none
