use Rattle.law_moves.proofs.Sessions.{sofar_ran_to}
use Rattle.law_moves.proofs.turns.reports_ran_to.Goals as goal

pub returns : goal.returns
returns g c = λ app limits props inputs reports edits more from log fault s r one_each. sofar_ran_to app limits props inputs reports edits more from log fault s r one_each
