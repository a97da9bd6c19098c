use Rattle.law_behavior.proofs.Carried.{suspended_carry_anew}
use Rattle.law_behavior.proofs.programs.suspended_carry_anew.Goals as goal

pub returns : goal.returns
returns g c = λ app. suspended_carry_anew app
