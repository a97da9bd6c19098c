-- Mark after mark.
use Rattle.law_served.proofs.Whole as whole
use Rattle.law_served.proofs.written.run_is_written.Goals as goal

pub returns : goal.returns
returns g c = λ app. whole.run_is_written app
