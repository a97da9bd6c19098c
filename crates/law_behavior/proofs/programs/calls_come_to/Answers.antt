use Rattle.law_behavior.proofs.Stopping.{calls_come_to}
use Rattle.law_behavior.proofs.programs.calls_come_to.Goals as goal

pub returns : goal.returns
returns g c = λ app. calls_come_to app
