use Rattle.law_behavior.proofs.Doms.{calls_hold}
use Rattle.law_behavior.proofs.programs.calls_hold.Goals as goal

pub returns : goal.returns
returns g c = λ app. calls_hold app
