use Rattle.law_behavior.proofs.Unshown.{hidden_writes_nothing}
use Rattle.law_behavior.proofs.hiding.hidden_writes_nothing.Goals as goal

pub returns : goal.returns
returns g c = λ app w v s hidden. hidden_writes_nothing app w v s hidden
