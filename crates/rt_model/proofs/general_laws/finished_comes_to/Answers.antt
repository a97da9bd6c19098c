use Rattle.rt_model.proofs.FinishedTold.{finished_comes_to}
use Rattle.rt_model.proofs.general_laws.finished_comes_to.Goals as goal

pub returns : goal.returns
returns g c = λ app. finished_comes_to app
