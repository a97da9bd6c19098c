-- The scope's cells are those of its numbers.
use Rattle.rt_cells.proofs.cells.Cells.owned.Goals as goal

pub returns : goal.returns
returns g c = record {
  owned = rw (← c.self.view_is) c.numbers_of.ensures.numbers;
  ascending = c.numbers_of.ensures.ascending;
}
