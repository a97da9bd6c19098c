use Rattle.law_behavior.proofs.Polls.{polls_follow}
use Rattle.law_behavior.proofs.programs.polls_follow.Goals as goal

pub returns : goal.returns
returns g c = λ app. polls_follow app
