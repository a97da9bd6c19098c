use Rattle.law_behavior.proofs.Carried.{logs_keep_drawn}
use Rattle.law_behavior.proofs.programs.logs_keep_drawn.Goals as goal

pub returns : goal.returns
returns g c = λ app. logs_keep_drawn app
