use Rattle.law_headline.proofs.Reports.{ran_shows}
use Rattle.law_headline.proofs.sessions.ran_shows.Goals as goal

pub returns : goal.returns
returns g c = λ app. ran_shows app
