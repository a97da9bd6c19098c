use Rattle.law_lasting.proofs.Finished.{one_finish}
use Rattle.law_lasting.proofs.finishing.one_finish.Goals as goal

pub returns : goal.returns
returns g c = λ app props inputs limits others taken also reports again one other. one_finish app props inputs limits others taken also reports again one other
