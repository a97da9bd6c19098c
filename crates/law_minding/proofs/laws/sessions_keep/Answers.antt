-- A law.
use Rattle.law_minding.proofs.Logged.{sessions_keep}
use Rattle.law_minding.proofs.laws.sessions_keep.Goals as goal

pub returns : goal.returns
returns g c = λ app a state. sessions_keep a app state (c.wakes_are_polled.ensures app)
