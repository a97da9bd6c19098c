use Rattle.rt_language.proofs.Lawful.{sources_are_lawful}
use Rattle.rt_language.proofs.laws.sources_are_lawful.Goals as goal

pub returns : goal.returns
returns c = sources_are_lawful
