-- By what the marks say.
use Rattle.run_table.proofs.table.Table.index_of.Goals as goal

pub near-requires : goal.near-requires
near-requires g c = record { ascending = rw c.as_slice-rows.ensures.value (c.self.invariant.ascends c.if-self.true) }

pub first_row-requires : goal.first_row-requires
first_row-requires g c = record { lists = rw c.as_slice-rows.ensures.value c.self.invariant.lists }
