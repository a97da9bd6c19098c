use Rattle.law_moves.proofs.Tellings.{unit_stops}
use Rattle.law_moves.proofs.telling.unit_stops.Goals as goal

pub returns : goal.returns
returns g c = λ app. unit_stops app
