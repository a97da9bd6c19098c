-- A law.
use Rattle.law_minding.proofs.Settling.{settled_keep}
use Rattle.law_minding.proofs.laws.settled_keep.Goals as goal

pub returns : goal.returns
returns g c = λ app a state. settled_keep a app state (c.wakes_are_polled.ensures app)
