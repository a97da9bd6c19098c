use Rattle.law_patch.proofs.Written.{tree_brings}
use Rattle.law_patch.proofs.marks.marks_bring.Goals as goal

pub returns : goal.returns
returns g c = λ app b claims above new old on meets. tree_brings app b on claims above new old meets
