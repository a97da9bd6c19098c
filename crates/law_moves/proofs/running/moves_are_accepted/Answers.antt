use Rattle.law_moves.proofs.Acceptance.{moves_are_accepted}
use Rattle.law_moves.proofs.running.moves_are_accepted.Goals as goal

pub returns : goal.returns
returns g c = λ app. moves_are_accepted app
