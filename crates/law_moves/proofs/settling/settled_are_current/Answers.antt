use Rattle.law_moves.proofs.Settled.{settled_are_current}
use Rattle.law_moves.proofs.settling.settled_are_current.Goals as goal

pub returns : goal.returns
returns g c = λ app. settled_are_current app
