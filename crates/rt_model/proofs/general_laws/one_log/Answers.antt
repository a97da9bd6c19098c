use Rattle.rt_model.proofs.OneLogOnly.{one_log_only}
use Rattle.rt_model.proofs.general_laws.one_log.Goals as goal

pub returns : goal.returns
returns g c = λ app. one_log_only app
