use Rattle.law_headline.proofs.FromTheStart.{cut_units_carry_anew}
use Rattle.law_headline.proofs.carrying.cut_units_carry_anew.Goals as goal

pub returns : goal.returns
returns g c = λ app. cut_units_carry_anew app
