use Rattle.law_headline.proofs.Settled.{reached_have_one_root}
use Rattle.law_headline.proofs.standing.reached_have_one_root.Goals as goal

pub returns : goal.returns
returns g c = λ app. reached_have_one_root app
