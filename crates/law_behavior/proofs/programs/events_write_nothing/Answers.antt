use Rattle.law_behavior.proofs.Muted.{events_write_nothing}
use Rattle.law_behavior.proofs.programs.events_write_nothing.Goals as goal

pub returns : goal.returns
returns g c = λ app. events_write_nothing app
