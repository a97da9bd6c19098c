use Rattle.law_behavior.proofs.Doms.{builds_hold}
use Rattle.law_behavior.proofs.programs.builds_hold.Goals as goal

pub returns : goal.returns
returns g c = λ app. builds_hold app
