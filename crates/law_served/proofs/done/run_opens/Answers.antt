-- By what its marks open.
use Rattle.law_served.proofs.Opened as opened
use Rattle.law_served.proofs.done.run_opens.Goals as goal

pub returns : goal.returns
returns g c = λ app. opened.run_opens app
