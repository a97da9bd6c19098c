-- The reads of all others stay.
use Rattle.rt_cells.proofs.cells.Cells.enter_context.Goals as goal

pub returns-clause-each : goal.returns-clause-each
returns-clause-each g c = rw (← c.self.view_is) c.drop_reader.ensures.each
