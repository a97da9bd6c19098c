use Rattle.run_table.specs.Found.{IsFirst}
use Rattle.run_table.proofs.firsts.walk.Given as goal

abbrev pub invariant-loop-index : goal.invariant-loop-index
invariant-loop-index g l = IsFirst l.rows l.number l.index
