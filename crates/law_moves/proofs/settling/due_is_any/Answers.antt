use Rattle.law_moves.proofs.Due.{due_is_any}
use Rattle.law_moves.proofs.settling.due_is_any.Goals as goal

pub returns : goal.returns
returns g c = λ app. due_is_any app
