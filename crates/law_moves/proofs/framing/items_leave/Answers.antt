use Rattle.law_moves.proofs.Untouched.{item_leaves}
use Rattle.law_moves.proofs.framing.items_leave.Goals as goal

pub returns : goal.returns
returns g c = λ app. item_leaves app
