-- A law.
use Rattle.law_minding.proofs.Minding.{owed_or_kept}
use Rattle.law_minding.proofs.laws.owed_or_kept.Goals as goal

pub returns : goal.returns
returns g c = λ app a. owed_or_kept a app (c.wakes_are_polled.ensures app)
