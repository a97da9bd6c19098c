use Rattle.law_moves.proofs.Settled.{others_are_current_or_owed}
use Rattle.law_moves.proofs.settling.others_are_current_or_owed.Goals as goal

pub returns : goal.returns
returns g c = λ app. others_are_current_or_owed app
