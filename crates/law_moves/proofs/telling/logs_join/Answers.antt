use Rattle.law_moves.proofs.Joins.{logs_join}
use Rattle.law_moves.proofs.telling.logs_join.Goals as goal

pub returns : goal.returns
returns g c = λ app. logs_join app
