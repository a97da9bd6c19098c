use Rattle.law_moves.proofs.Leaves.{removal_walks}
use Rattle.law_moves.proofs.removing.removal_walks.Goals as goal

pub returns : goal.returns
returns g c = removal_walks _
