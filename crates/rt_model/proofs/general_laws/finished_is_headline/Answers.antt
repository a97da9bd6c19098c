use Rattle.rt_model.proofs.FinishedTold.{finished_is_headline}
use Rattle.rt_model.proofs.general_laws.finished_is_headline.Goals as goal

pub returns : goal.returns
returns g c = λ app. finished_is_headline app
