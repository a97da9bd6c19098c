use Rattle.law_behavior.proofs.Counting.{units_follow}
use Rattle.law_behavior.proofs.programs.units_follow.Goals as goal

pub returns : goal.returns
returns g c = λ app. units_follow app
