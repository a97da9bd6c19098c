use Rattle.law_moves.proofs.Pruning.{leaf_prunes}
use Rattle.law_moves.proofs.removing.leaf_prunes.Goals as goal

pub returns : goal.returns
returns g c = λ app. leaf_prunes app
