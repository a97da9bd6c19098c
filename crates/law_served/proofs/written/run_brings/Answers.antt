-- By the document of the definitions.
use Rattle.law_served.proofs.Whole as whole
use Rattle.law_served.proofs.written.run_brings.Goals as goal

pub returns : goal.returns
returns g c = λ app. whole.run_brings app
