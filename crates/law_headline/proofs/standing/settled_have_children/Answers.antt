use Rattle.law_headline.proofs.Settled.{settled_have_children}
use Rattle.law_headline.proofs.standing.settled_have_children.Goals as goal

pub returns : goal.returns
returns g c = λ app. settled_have_children app
