use Rattle.run_shown.proofs.Touches.{Comes}
use Rattle.run_shown.proofs.touching.reach.Given as goal

abbrev pub invariant-loop-step : goal.invariant-loop-step
invariant-loop-step g l = Comes l.look l.initial.scopes l.scopes l.scope l.next
