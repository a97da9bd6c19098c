use Rattle.rt_model.proofs.TakesOne.{removal_takes_one}
use Rattle.rt_model.proofs.general_laws.removal_takes_one.Goals as goal

pub returns : goal.returns
returns g c = λ app. removal_takes_one app
