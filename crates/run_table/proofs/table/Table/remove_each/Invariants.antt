use Rattle.std.proofs.Common.{◌≡◌, length}
use Rattle.rt_model.specs.Lists.{without}
use Rattle.run_table.proofs.table.Table.remove_each.Given as goal

abbrev pub invariant-loop-index : goal.invariant-loop-index
invariant-loop-index g l = without l.self l.number ≡ without l.initial.self l.number

abbrev pub decreases-loop-index : goal.decreases-loop-index
decreases-loop-index g l = length l.self
