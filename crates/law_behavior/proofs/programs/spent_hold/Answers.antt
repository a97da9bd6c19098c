use Rattle.law_behavior.proofs.Doms.{spent_hold}
use Rattle.law_behavior.proofs.programs.spent_hold.Goals as goal

pub returns : goal.returns
returns g c = λ app. spent_hold app
