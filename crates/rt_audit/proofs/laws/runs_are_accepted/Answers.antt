use Rattle.rt_audit.proofs.Runs.{runs_are_accepted}
use Rattle.rt_audit.proofs.laws.runs_are_accepted.Goals as goal

pub returns : goal.returns
returns g c = λ app. runs_are_accepted app
