use Rattle.law_headline.proofs.Reports.{finished_hold}
use Rattle.law_headline.proofs.sessions.finished_hold.Goals as goal

pub returns : goal.returns
returns g c = λ app. finished_hold app
