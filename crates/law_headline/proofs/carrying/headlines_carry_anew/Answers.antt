use Rattle.law_headline.proofs.Fronts.{headlines_carry_anew}
use Rattle.law_headline.proofs.carrying.headlines_carry_anew.Goals as goal

pub returns : goal.returns
returns g c = λ app. headlines_carry_anew app
