use Rattle.law_moves.proofs.Tellings.{unit_ends}
use Rattle.law_moves.proofs.telling.unit_ends.Goals as goal

pub returns : goal.returns
returns g c = λ app. unit_ends app
