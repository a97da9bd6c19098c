use Rattle.law_headline.proofs.Reruns.{reruns_keep_numbers}
use Rattle.law_headline.proofs.rerunning.reruns_keep_numbers.Goals as goal

pub returns : goal.returns
returns g c = λ app. reruns_keep_numbers app
