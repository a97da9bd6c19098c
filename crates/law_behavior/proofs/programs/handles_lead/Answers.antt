use Rattle.law_behavior.proofs.Doms.{handles_lead}
use Rattle.law_behavior.proofs.programs.handles_lead.Goals as goal

pub returns : goal.returns
returns g c = λ app. handles_lead app
