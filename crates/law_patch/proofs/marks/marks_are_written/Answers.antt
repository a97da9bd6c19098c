use Rattle.law_patch.proofs.Written.{tree_writes}
use Rattle.law_patch.proofs.marks.marks_are_written.Goals as goal

pub returns : goal.returns
returns g c = λ app b above new old on. tree_writes app b on above new old
