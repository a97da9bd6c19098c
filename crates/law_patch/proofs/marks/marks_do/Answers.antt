use Rattle.law_patch.proofs.Doing.{marks_do}
use Rattle.law_patch.proofs.marks.marks_do.Goals as goal

pub returns : goal.returns
returns g c = λ app scope side numbers children above new old. marks_do app scope side numbers children above new old
