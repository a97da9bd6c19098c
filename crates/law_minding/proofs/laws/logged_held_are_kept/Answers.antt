-- A law.
use Rattle.law_minding.proofs.Logged.{logged_held_are_kept}
use Rattle.law_minding.proofs.laws.logged_held_are_kept.Goals as goal

pub returns : goal.returns
returns g c = λ app a state. logged_held_are_kept a app state (c.wakes_are_polled.ensures app)
