-- They are those of the reads.
use Rattle.rt_cells.proofs.cells.Cells.context_sources.Goals as goal

pub returns : goal.returns
returns g c = record {
  sources = rw (← c.self.view_is) c.contexts_of.ensures.sources;
  ascending = c.contexts_of.ensures.ascending;
  read = rw (← c.self.view_is) c.contexts_of.ensures.read;
  only = rw (← c.self.view_is) c.contexts_of.ensures.only;
}
