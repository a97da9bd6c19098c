use Rattle.law_moves.proofs.Reported.{ran_to_is_current}
use Rattle.law_moves.proofs.reporting.ran_to_is_current.Goals as goal

pub returns : goal.returns
returns g c = λ app. ran_to_is_current app
