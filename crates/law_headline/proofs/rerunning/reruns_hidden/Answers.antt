use Rattle.law_headline.proofs.Reruns.{reruns_hidden}
use Rattle.law_headline.proofs.rerunning.reruns_hidden.Goals as goal

pub returns : goal.returns
returns g c = λ app. reruns_hidden app
