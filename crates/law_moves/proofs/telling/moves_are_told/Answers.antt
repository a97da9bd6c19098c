use Rattle.law_moves.proofs.Tellings.{moves_are_told}
use Rattle.law_moves.proofs.telling.moves_are_told.Goals as goal

pub returns : goal.returns
returns g c = λ app. moves_are_told app
