use Rattle.law_moves.proofs.Pruning.{leaf_ends}
use Rattle.law_moves.proofs.removing.leaf_ends.Goals as goal

pub returns : goal.returns
returns g c = leaf_ends _
