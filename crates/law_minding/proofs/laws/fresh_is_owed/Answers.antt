-- A law.
use Rattle.law_minding.proofs.Unpolled.{fresh_is_owed}
use Rattle.law_minding.proofs.laws.fresh_is_owed.Goals as goal

pub returns : goal.returns
returns g c = λ app state. fresh_is_owed app state (c.wakes_are_polled.ensures app)
