use Rattle.law_behavior.proofs.RunsOnce.{renders_run_once}
use Rattle.law_behavior.proofs.programs.renders_run_once.Goals as goal

pub returns : goal.returns
returns g c = λ app. renders_run_once app
