-- A law.
use Rattle.law_minding.proofs.Unpolled.{fresh_stay}
use Rattle.law_minding.proofs.laws.fresh_stay.Goals as goal

pub returns : goal.returns
returns g c = λ app a state. fresh_stay a app state
