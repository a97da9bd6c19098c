-- Only the reads change, as they are set.
use Rattle.std.proofs.lemmas.Result.{on_ok_weaker}
use Rattle.rt_cells.proofs.cells.Cells.set_reads.Goals as goal

pub returns-clause-ok : goal.returns-clause-ok
returns-clause-ok g c = rw (← c.self.view_is)
    (on_ok_weaker c.set.result (λ set i. record {
      cells = c.self.inside.cells.held;
      next_cell = c.self.inside.cells.next;
      reads = set i;
      contexts = c.self.inside.contexts.held;
      next_context = c.self.inside.contexts.next;
    }) c.set.ensures.ok)

pub returns-clause-set : goal.returns-clause-set
returns-clause-set g c = c.set.ensures.set

pub returns-clause-each : goal.returns-clause-each
returns-clause-each g c = rw (← c.self.view_is) c.set.ensures.each
