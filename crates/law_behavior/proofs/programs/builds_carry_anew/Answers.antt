use Rattle.law_behavior.proofs.Carried.{builds_carry_anew}
use Rattle.law_behavior.proofs.programs.builds_carry_anew.Goals as goal

pub returns : goal.returns
returns g c = λ app. builds_carry_anew app
