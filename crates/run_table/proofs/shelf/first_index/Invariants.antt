-- A look for the number goes on from here.
use Rattle.std.proofs.Common.{◌≡◌, drop}
use Rattle.rt_model.specs.Lists.{at}
use Rattle.run_table.specs.Stands.{live}
use Rattle.run_table.proofs.shelf.first_index.Given as goal

abbrev pub invariant-loop-index : goal.invariant-loop-index
invariant-loop-index g l = at (live l.rows) l.number ≡ at (live (drop l.index l.rows)) l.number
