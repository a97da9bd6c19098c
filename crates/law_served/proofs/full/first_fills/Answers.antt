-- By what all marks brought.
use Rattle.law_served.proofs.Filled as filled
use Rattle.law_served.proofs.full.first_fills.Goals as goal

pub returns : goal.returns
returns g c = λ app. filled.first_fills app
