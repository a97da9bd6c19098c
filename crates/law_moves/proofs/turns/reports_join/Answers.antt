use Rattle.law_moves.proofs.Sessions.{sofar_more}
use Rattle.law_moves.proofs.turns.reports_join.Goals as goal

pub returns : goal.returns
returns g c = λ app limits props inputs reports edits more from m report s r settled counts. sofar_more app limits props inputs reports edits more from m report s r settled counts
