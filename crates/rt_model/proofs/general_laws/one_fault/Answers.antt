use Rattle.rt_model.proofs.FaultsOnce.{one_fault}
use Rattle.rt_model.proofs.general_laws.one_fault.Goals as goal

pub returns : goal.returns
returns g c = λ app. one_fault app
