use Rattle.std.proofs.Common.{subst}
use Rattle.run_table.specs.Found.{Ascends}
use Rattle.run_table.proofs.table.Table.take.Goals as goal

pub take_one-requires : goal.take_one-requires
take_one-requires g c = record { ascending = subst Ascends c.self.view_is (c.self.invariant.ascends c.if-self.true) }
