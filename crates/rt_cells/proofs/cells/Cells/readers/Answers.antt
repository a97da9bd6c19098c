-- They are those of the reads.
use Rattle.rt_cells.proofs.cells.Cells.readers.Goals as goal

pub returns : goal.returns
returns g c = record {
  readers = rw (← c.self.view_is) c.readers.ensures.readers;
  ascending = c.readers.ensures.ascending;
  members = rw (← c.self.view_is) c.readers.ensures.members;
  contexts = rw (← c.self.view_is) c.ascends.ensures.ascending;
}
