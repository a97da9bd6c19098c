use Rattle.law_moves.proofs.Untouched.{make_joins}
use Rattle.law_moves.proofs.framing.makes_join.Goals as goal

pub returns : goal.returns
returns g c = λ app. make_joins app
