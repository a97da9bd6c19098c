use Rattle.law_moves.proofs.Leaving.{removal_heeds}
use Rattle.law_moves.proofs.heeding.removal_heeds.Goals as goal

pub returns : goal.returns
returns g c = λ n w s. removal_heeds n w s
