use Rattle.law_headline.proofs.Reports.{ran_to_is_came_to}
use Rattle.law_headline.proofs.sessions.ran_to_is_came_to.Goals as goal

pub returns : goal.returns
returns g c = λ app. ran_to_is_came_to app
