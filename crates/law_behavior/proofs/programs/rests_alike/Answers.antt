use Rattle.law_behavior.proofs.Loops.{rests_alike}
use Rattle.law_behavior.proofs.programs.rests_alike.Goals as goal

pub returns : goal.returns
returns g c = rests_alike
