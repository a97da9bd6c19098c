-- What is kept of a reader is in order.
use Rattle.rt_cells.proofs.Linked.{kept_sorted}
use Rattle.rt_cells.proofs.reads.Reads.of.Goals as goal

pub returns-clause-ascending : goal.returns-clause-ascending
returns-clause-ascending c = rw c.kept_of.ensures.kept (kept_sorted c.self.invariant c.args.reader)

pub returns-clause-readers : goal.returns-clause-readers
returns-clause-readers c = rw (← c.self.view_is) c.self.invariant.ascending
