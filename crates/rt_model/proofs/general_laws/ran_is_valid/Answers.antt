use Rattle.rt_model.proofs.InputsLeft.{ran_is_valid}
use Rattle.rt_model.proofs.general_laws.ran_is_valid.Goals as goal

pub returns : goal.returns
returns g c = λ app. ran_is_valid app
