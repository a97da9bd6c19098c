-- Mark after mark.
use Rattle.law_served.proofs.Hiding as hiding
use Rattle.law_served.proofs.written.run_hides.Goals as goal

pub returns : goal.returns
returns g c = λ app. hiding.run_hides app
