use Rattle.law_headline.proofs.Settled.{settled_show_nodes}
use Rattle.law_headline.proofs.standing.settled_show_nodes.Goals as goal

pub returns : goal.returns
returns g c = λ app. settled_show_nodes app
