use Rattle.law_behavior.proofs.Doms.{given_builds_hold}
use Rattle.law_behavior.proofs.programs.given_builds_hold.Goals as goal

pub returns : goal.returns
returns g c = λ app. given_builds_hold app
