use Rattle.law_moves.proofs.Tellings.{unit_is_told}
use Rattle.law_moves.proofs.telling.unit_is_told.Goals as goal

pub returns : goal.returns
returns g c = λ app. unit_is_told app
