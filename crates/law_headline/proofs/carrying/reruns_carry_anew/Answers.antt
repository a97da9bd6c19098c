use Rattle.law_headline.proofs.Shown.{reruns_carry_anew}
use Rattle.law_headline.proofs.carrying.reruns_carry_anew.Goals as goal

pub returns : goal.returns
returns g c = λ app. reruns_carry_anew app
