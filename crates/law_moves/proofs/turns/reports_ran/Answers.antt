use Rattle.law_moves.proofs.Sessions.{sofar_ran}
use Rattle.law_moves.proofs.turns.reports_ran.Goals as goal

pub returns : goal.returns
returns g c = λ app limits props inputs reports edits m s one_each. sofar_ran app limits props inputs reports edits m s one_each
