use Rattle.law_behavior.proofs.Coming.{none_is_left}
use Rattle.law_behavior.proofs.turns.none_is_left.Goals as goal

pub returns : goal.returns
returns g c = none_is_left _
