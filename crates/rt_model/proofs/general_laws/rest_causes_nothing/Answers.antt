use Rattle.rt_model.proofs.FitsSingle.{rest_causes_nothing}
use Rattle.rt_model.proofs.general_laws.rest_causes_nothing.Goals as goal

pub returns : goal.returns
returns g c = λ app. rest_causes_nothing app
