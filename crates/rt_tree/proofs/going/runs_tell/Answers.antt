-- Step after step.
use Rattle.rt_tree.proofs.Telling.{told}
use Rattle.rt_tree.proofs.going.runs_tell.Goals as goal

pub returns : goal.returns
returns g c = λ app. told app
