use Rattle.law_behavior.proofs.Carried.{calls_carry_anew}
use Rattle.law_behavior.proofs.programs.calls_carry_anew.Goals as goal

pub returns : goal.returns
returns g c = λ app. calls_carry_anew app
