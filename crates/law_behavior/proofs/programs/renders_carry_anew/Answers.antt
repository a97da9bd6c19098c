use Rattle.law_behavior.proofs.Carried.{renders_carry_anew}
use Rattle.law_behavior.proofs.programs.renders_carry_anew.Goals as goal

pub returns : goal.returns
returns g c = λ app. renders_carry_anew app
