use Rattle.law_headline.proofs.Settled.{settled_number_once}
use Rattle.law_headline.proofs.standing.settled_number_once.Goals as goal

pub returns : goal.returns
returns g c = λ app. settled_number_once app
