use Rattle.law_headline.proofs.FromTheStart.{units_carry_anew}
use Rattle.law_headline.proofs.carrying.units_carry_anew.Goals as goal

pub returns : goal.returns
returns g c = λ app. units_carry_anew app
