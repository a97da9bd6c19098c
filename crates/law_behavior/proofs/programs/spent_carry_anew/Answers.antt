use Rattle.law_behavior.proofs.Carried.{spent_carry_anew}
use Rattle.law_behavior.proofs.programs.spent_carry_anew.Goals as goal

pub returns : goal.returns
returns g c = λ app. spent_carry_anew app
