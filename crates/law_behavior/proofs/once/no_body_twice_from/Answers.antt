use Rattle.law_behavior.proofs.Renders.{no_body_twice_from}
use Rattle.law_behavior.proofs.once.no_body_twice_from.Goals as goal

pub returns : goal.returns
returns g c = λ app lawful limits props inputs m v log reached rest ends plain. no_body_twice_from app lawful limits props inputs m v log reached rest ends plain
