use Rattle.law_headline.proofs.Reruns.{reruns_bring}
use Rattle.law_headline.proofs.rerunning.reruns_bring.Goals as goal

pub returns : goal.returns
returns g c = λ app. reruns_bring app
