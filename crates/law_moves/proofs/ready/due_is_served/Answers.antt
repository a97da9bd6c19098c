use Rattle.law_moves.proofs.Served.{due_is_served}
use Rattle.law_moves.proofs.ready.due_is_served.Goals as goal

pub returns : goal.returns
returns g c = λ app. due_is_served app
