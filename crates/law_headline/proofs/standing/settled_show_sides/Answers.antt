use Rattle.law_headline.proofs.Settled.{settled_show_sides}
use Rattle.law_headline.proofs.standing.settled_show_sides.Goals as goal

pub returns : goal.returns
returns g c = λ app. settled_show_sides app
