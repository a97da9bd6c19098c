use Rattle.law_behavior.proofs.Coming.{next_in_turn}
use Rattle.law_behavior.proofs.turns.next_in_turn.Goals as goal

pub returns : goal.returns
returns g c = next_in_turn _
