use Rattle.law_behavior.proofs.Leading.{asides_lead}
use Rattle.law_behavior.proofs.programs.asides_lead.Goals as goal

pub returns : goal.returns
returns g c = λ app limits props whole. asides_lead app limits props whole
