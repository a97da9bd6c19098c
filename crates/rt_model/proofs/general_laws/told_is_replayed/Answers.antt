use Rattle.rt_model.proofs.ToldReplayed.{told_is_replayed}
use Rattle.rt_model.proofs.general_laws.told_is_replayed.Goals as goal

pub returns : goal.returns
returns g c = λ app. told_is_replayed app
