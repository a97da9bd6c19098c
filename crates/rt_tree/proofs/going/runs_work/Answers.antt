-- Step after step.
use Rattle.rt_tree.proofs.Working.{works}
use Rattle.rt_tree.proofs.going.runs_work.Goals as goal

pub returns : goal.returns
returns g c = λ app scope side p r ss met on have. works app scope side p r ss met on have
