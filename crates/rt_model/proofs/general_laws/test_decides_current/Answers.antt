use Rattle.rt_model.proofs.CurrentDecided.{test_decides_current}
use Rattle.rt_model.proofs.general_laws.test_decides_current.Goals as goal

pub returns : goal.returns
returns g c = λ app. test_decides_current app
