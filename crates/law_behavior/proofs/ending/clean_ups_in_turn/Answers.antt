use Rattle.law_behavior.proofs.Cleaning.{clean_ups_in_turn}
use Rattle.law_behavior.proofs.ending.clean_ups_in_turn.Goals as goal

pub returns : goal.returns
returns g c = λ app w v s work h. clean_ups_in_turn app w v s work h
