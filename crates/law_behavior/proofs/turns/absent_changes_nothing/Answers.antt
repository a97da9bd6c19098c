use Rattle.law_behavior.proofs.Ignored.{absent_changes_nothing}
use Rattle.law_behavior.proofs.turns.absent_changes_nothing.Goals as goal

pub returns : goal.returns
returns g c = λ app m u k input more t rest inputs absent accepted same. absent_changes_nothing app m u k input more t rest inputs absent accepted same
