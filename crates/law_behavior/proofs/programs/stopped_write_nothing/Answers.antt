use Rattle.law_behavior.proofs.Muted.{stopped_write_nothing}
use Rattle.law_behavior.proofs.programs.stopped_write_nothing.Goals as goal

pub returns : goal.returns
returns g c = λ app. stopped_write_nothing app
