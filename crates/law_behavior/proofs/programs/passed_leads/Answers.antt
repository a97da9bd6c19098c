use Rattle.law_behavior.proofs.Doms.{passed_leads}
use Rattle.law_behavior.proofs.programs.passed_leads.Goals as goal

pub returns : goal.returns
returns g c = λ app. passed_leads app
