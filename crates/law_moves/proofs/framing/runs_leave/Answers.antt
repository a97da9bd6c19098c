use Rattle.law_moves.proofs.Untouched.{run_leaves}
use Rattle.law_moves.proofs.framing.runs_leave.Goals as goal

pub returns : goal.returns
returns g c = λ app. run_leaves app
