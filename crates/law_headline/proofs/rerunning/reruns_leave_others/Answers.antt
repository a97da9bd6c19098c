use Rattle.law_headline.proofs.Reruns.{reruns_leave_others}
use Rattle.law_headline.proofs.rerunning.reruns_leave_others.Goals as goal

pub returns : goal.returns
returns g c = λ app. reruns_leave_others app
