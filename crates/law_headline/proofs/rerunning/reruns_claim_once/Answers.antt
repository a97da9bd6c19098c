use Rattle.law_headline.proofs.Reruns.{reruns_claim_once}
use Rattle.law_headline.proofs.rerunning.reruns_claim_once.Goals as goal

pub returns : goal.returns
returns g c = λ app. reruns_claim_once app
