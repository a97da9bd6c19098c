use Rattle.law_moves.proofs.Settled.{all_are_current_or_owed}
use Rattle.law_moves.proofs.settling.all_are_current_or_owed.Goals as goal

pub returns : goal.returns
returns g c = λ app. all_are_current_or_owed app
