use Rattle.rt_model.proofs.Lawful.{programs_are_lawful}
use Rattle.rt_model.proofs.general_laws.programs_are_lawful.Goals as goal

pub returns : goal.returns
returns g c = programs_are_lawful _
