-- A law.
use Rattle.law_minding.proofs.Tended.{tended_are_kept}
use Rattle.law_minding.proofs.laws.tended_are_kept.Goals as goal

pub returns : goal.returns
returns g c = λ app a state. tended_are_kept a app state (c.wakes_are_polled.ensures app)
