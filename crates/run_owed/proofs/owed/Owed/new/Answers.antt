-- Nothing is told, and the queues are empty.
use Rattle.std.proofs.Common.{ap}
use Rattle.run_owed.specs.Changes.{owing_by}
use Rattle.run_owed.proofs.Entered.{stood_nothing}
use Rattle.run_owed.proofs.owed.Owed.new.Goals as goal

pub invariant_of-result : goal.invariant_of-result
invariant_of-result c = rw (c.new-2.ensures, c.new.ensures.empty) stood_nothing

pub returns : goal.returns
returns c = record { empty = ap owing_by c.new-2.ensures }
