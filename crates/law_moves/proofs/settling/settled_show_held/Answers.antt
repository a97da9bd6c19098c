use Rattle.law_moves.proofs.Settled.{settled_show_held}
use Rattle.law_moves.proofs.settling.settled_show_held.Goals as goal

pub returns : goal.returns
returns g c = λ app. settled_show_held app
