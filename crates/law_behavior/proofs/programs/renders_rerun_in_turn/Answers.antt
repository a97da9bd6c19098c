use Rattle.law_behavior.proofs.RunsOnce.{renders_rerun_in_turn}
use Rattle.law_behavior.proofs.programs.renders_rerun_in_turn.Goals as goal

pub returns : goal.returns
returns g c = λ app. renders_rerun_in_turn app
