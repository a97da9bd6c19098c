use Rattle.law_behavior.proofs.Doms.{renders_hold}
use Rattle.law_behavior.proofs.programs.renders_hold.Goals as goal

pub returns : goal.returns
returns g c = λ app. renders_hold app
