use Rattle.std.proofs.Common.{ap}
use Rattle.run_table.specs.Stands.{live}
use Rattle.run_table.proofs.shelf.Shelf.new.Goals as goal

pub invariant_of-result : goal.invariant_of-result
invariant_of-result g c = λ _. rw c.new.ensures.items tt

pub returns : goal.returns
returns g c = record { empty = ap live c.new.ensures.items }
