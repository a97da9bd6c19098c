use Rattle.rt_model.proofs.Quiet.{same_causes_nothing}
use Rattle.rt_model.proofs.general_laws.same_causes_nothing.Goals as goal

pub returns : goal.returns
returns g c = λ app. same_causes_nothing app
