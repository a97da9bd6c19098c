use Rattle.rt_model.proofs.SmallLawful.{small_are_lawful}
use Rattle.rt_model.proofs.rows.small_are_lawful.Goals as goal

pub returns : goal.returns
returns c = small_are_lawful
