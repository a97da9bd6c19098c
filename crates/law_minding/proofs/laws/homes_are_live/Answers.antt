-- A law.
use Rattle.law_minding.proofs.Homes.{homes_are_live}
use Rattle.law_minding.proofs.laws.homes_are_live.Goals as goal

pub returns : goal.returns
returns g c = λ app. homes_are_live app
