use Rattle.law_moves.proofs.OneMoveOnly.{one_move}
use Rattle.law_moves.proofs.running.one_move.Goals as goal

pub returns : goal.returns
returns g c = λ app. one_move app
