-- A law.
use Rattle.law_minding.proofs.Coming.{spawned_stand}
use Rattle.law_minding.proofs.laws.spawned_stand.Goals as goal

pub returns : goal.returns
returns g c = λ app a state. spawned_stand a app state
