use Rattle.law_behavior.proofs.Polls.{polls_lead}
use Rattle.law_behavior.proofs.programs.polls_lead.Goals as goal

pub returns : goal.returns
returns g c = λ app. polls_lead app
