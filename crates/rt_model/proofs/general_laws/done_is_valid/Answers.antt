use Rattle.rt_model.proofs.ValidOnce.{done_is_valid}
use Rattle.rt_model.proofs.general_laws.done_is_valid.Goals as goal

pub returns : goal.returns
returns g c = λ app. done_is_valid app
