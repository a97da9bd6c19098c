use Rattle.law_moves.proofs.Sorted.{fed_fit}
use Rattle.law_moves.proofs.settling.fed_fit.Goals as goal

pub returns : goal.returns
returns g c = λ app. fed_fit app
