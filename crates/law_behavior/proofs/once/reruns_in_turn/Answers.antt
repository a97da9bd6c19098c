use Rattle.law_behavior.proofs.InTurn.{reruns_in_turn}
use Rattle.law_behavior.proofs.once.reruns_in_turn.Goals as goal

pub returns : goal.returns
returns g c = λ app lawful limits props inputs m v log reached rest ends plain. reruns_in_turn app lawful limits props inputs m v log reached rest ends plain
