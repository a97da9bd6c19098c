-- A law.
use Rattle.law_minding.proofs.Comers.{comers_stand}
use Rattle.law_minding.proofs.laws.comers_stand.Goals as goal

pub returns : goal.returns
returns g c = λ app a state. comers_stand a app state
