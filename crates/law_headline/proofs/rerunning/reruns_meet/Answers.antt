use Rattle.law_headline.proofs.Reruns.{reruns_meet}
use Rattle.law_headline.proofs.rerunning.reruns_meet.Goals as goal

pub returns : goal.returns
returns g c = λ app. reruns_meet app
