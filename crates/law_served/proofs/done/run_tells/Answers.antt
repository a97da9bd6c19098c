-- By what its marks leave.
use Rattle.law_served.proofs.Ended as ended
use Rattle.law_served.proofs.done.run_tells.Goals as goal

pub returns : goal.returns
returns g c = λ app. ended.run_tells app
