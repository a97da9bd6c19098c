use Rattle.law_headline.proofs.Reports.{ran_is_headline}
use Rattle.law_headline.proofs.sessions.ran_is_headline.Goals as goal

pub returns : goal.returns
returns g c = λ app. ran_is_headline app
