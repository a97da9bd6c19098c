-- Step after step.
use Rattle.rt_tree.proofs.Running.{in_order}
use Rattle.rt_tree.proofs.going.runs_in_order.Goals as goal

pub returns : goal.returns
returns g c = λ app. in_order app
