use Rattle.law_behavior.proofs.Loops.{unended_grows}
use Rattle.law_behavior.proofs.programs.unended_grows.Goals as goal

pub returns : goal.returns
returns g c = λ app. unended_grows app
