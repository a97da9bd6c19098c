use Rattle.law_headline.proofs.Reruns.{reruns_keep_setting}
use Rattle.law_headline.proofs.rerunning.reruns_keep_setting.Goals as goal

pub returns : goal.returns
returns g c = λ app. reruns_keep_setting app
