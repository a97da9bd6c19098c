-- A law.
use Rattle.law_minding.proofs.Level.{held_are_kept}
use Rattle.law_minding.proofs.laws.held_are_kept.Goals as goal

pub returns : goal.returns
returns g c = λ app a state. held_are_kept a app state (c.wakes_are_polled.ensures app)
