use Rattle.law_headline.proofs.Settled.{settled_stand_once}
use Rattle.law_headline.proofs.standing.settled_stand_once.Goals as goal

pub returns : goal.returns
returns g c = λ app. settled_stand_once app
