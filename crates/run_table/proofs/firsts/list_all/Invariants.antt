-- The rows before the index are listed.
use Rattle.std.proofs.Common.{take}
use Rattle.run_table.specs.Found.{ListsFirsts}
use Rattle.run_table.proofs.firsts.list_all.Given as goal

abbrev pub invariant-loop-index : goal.invariant-loop-index
invariant-loop-index g l = ListsFirsts l.firsts (take l.index l.rows)
