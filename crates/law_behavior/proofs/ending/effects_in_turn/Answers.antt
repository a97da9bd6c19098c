use Rattle.law_behavior.proofs.Cleaning.{effects_in_turn}
use Rattle.law_behavior.proofs.ending.effects_in_turn.Goals as goal

pub returns : goal.returns
returns g c = λ app w v s x work live h. effects_in_turn app w v s x work live h
