use Rattle.law_moves.proofs.Untouched.{removal_leaves}
use Rattle.law_moves.proofs.framing.removals_leave.Goals as goal

pub returns : goal.returns
returns g c = λ app. removal_leaves app
