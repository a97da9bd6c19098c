use Rattle.law_moves.proofs.Logs.{logs_are_moves}
use Rattle.law_moves.proofs.running.logs_are_moves.Goals as goal

pub returns : goal.returns
returns g c = λ app. logs_are_moves app
