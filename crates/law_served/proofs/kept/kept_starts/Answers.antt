-- By what the definitions say of each place.
use Rattle.law_served.proofs.Begun as begun
use Rattle.law_served.proofs.kept.kept_starts.Goals as goal

pub returns : goal.returns
returns g c = λ app. begun.kept_starts app
