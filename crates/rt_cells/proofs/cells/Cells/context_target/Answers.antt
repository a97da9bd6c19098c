-- The contexts ascend by number.
use Rattle.rt_cells.proofs.cells.Cells.context_target.Goals as goal

pub returns-clause-ascending : goal.returns-clause-ascending
returns-clause-ascending g c = rw (← c.self.view_is) c.ascends.ensures.ascending
