use Rattle.law_behavior.proofs.Polls.{polling_leads}
use Rattle.law_behavior.proofs.programs.polling_leads.Goals as goal

pub returns : goal.returns
returns g c = λ app. polling_leads app
