use Rattle.law_headline.proofs.Settled.{reached_unfold}
use Rattle.law_headline.proofs.standing.reached_unfold.Goals as goal

pub returns : goal.returns
returns g c = λ app. reached_unfold app
