use Rattle.std.proofs.Common.{subst}
use Rattle.run_table.specs.Found.{Ascends}
use Rattle.run_table.proofs.table.Table.remove.Goals as goal

pub remove_one-requires : goal.remove_one-requires
remove_one-requires g c = record { ascending = subst Ascends c.self.view_is (c.self.invariant.ascends c.if-self.true) }
