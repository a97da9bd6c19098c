use Rattle.std.proofs.Common.{drop}
use Rattle.run_shown.proofs.Touches.{Gathers}
use Rattle.run_shown.proofs.touching.rows_touched.Given as goal

abbrev pub invariant-loop-entry : goal.invariant-loop-entry
invariant-loop-entry g l = Gathers l.after l.scopes l.stood (drop l.entry-index l.stood)
