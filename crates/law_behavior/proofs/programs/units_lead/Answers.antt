use Rattle.law_behavior.proofs.Doms.{units_lead}
use Rattle.law_behavior.proofs.programs.units_lead.Goals as goal

pub returns : goal.returns
returns g c = λ app. units_lead app
