use Rattle.law_behavior.proofs.Muted.{asides_show_nothing}
use Rattle.law_behavior.proofs.programs.asides_show_nothing.Goals as goal

pub returns : goal.returns
returns g c = λ app. asides_show_nothing app
