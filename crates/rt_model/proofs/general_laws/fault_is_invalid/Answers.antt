use Rattle.rt_model.proofs.FaultsOnce.{fault_is_invalid}
use Rattle.rt_model.proofs.general_laws.fault_is_invalid.Goals as goal

pub returns : goal.returns
returns g c = λ app. fault_is_invalid app
