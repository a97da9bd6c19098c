use Rattle.law_moves.proofs.Pruning.{one_more_went}
use Rattle.law_moves.proofs.removing.one_more_went.Goals as goal

pub returns : goal.returns
returns g c = one_more_went _
