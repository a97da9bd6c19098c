use Rattle.law_behavior.proofs.Renders.{no_body_twice}
use Rattle.law_behavior.proofs.once.no_body_twice.Goals as goal

pub returns : goal.returns
returns g c = λ app lawful limits props inputs m v log reached rest ends plain. no_body_twice app lawful limits props inputs m v log reached rest ends plain
