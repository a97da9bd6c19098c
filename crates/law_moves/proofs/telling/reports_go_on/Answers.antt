use Rattle.law_moves.proofs.Reports.{reports_go_on}
use Rattle.law_moves.proofs.telling.reports_go_on.Goals as goal

pub returns : goal.returns
returns g c = λ app. reports_go_on app
