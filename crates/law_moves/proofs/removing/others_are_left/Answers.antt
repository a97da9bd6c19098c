use Rattle.law_moves.proofs.Pruning.{others_are_left}
use Rattle.law_moves.proofs.removing.others_are_left.Goals as goal

pub returns : goal.returns
returns g c = others_are_left _
