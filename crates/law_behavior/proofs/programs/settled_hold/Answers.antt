use Rattle.law_behavior.proofs.Doms.{settled_hold}
use Rattle.law_behavior.proofs.programs.settled_hold.Goals as goal

pub returns : goal.returns
returns g c = λ app. settled_hold app
