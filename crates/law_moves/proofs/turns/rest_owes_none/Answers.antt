use Rattle.law_moves.proofs.Sessions.{rest_owes_none}
use Rattle.law_moves.proofs.turns.rest_owes_none.Goals as goal

pub returns : goal.returns
returns g c = λ m h built quiet none. rest_owes_none m h built quiet none
