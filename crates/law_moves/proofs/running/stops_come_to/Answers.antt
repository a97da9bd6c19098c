use Rattle.law_moves.proofs.Acceptance.{stops_come_to}
use Rattle.law_moves.proofs.running.stops_come_to.Goals as goal

pub returns : goal.returns
returns g c = λ app. stops_come_to app
