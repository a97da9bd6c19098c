use Rattle.law_behavior.proofs.Stopping.{renders_come_to}
use Rattle.law_behavior.proofs.programs.renders_come_to.Goals as goal

pub returns : goal.returns
returns g c = λ app. renders_come_to app
