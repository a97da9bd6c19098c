use Rattle.law_behavior.proofs.Loops.{polled_comes_next}
use Rattle.law_behavior.proofs.programs.polled_comes_next.Goals as goal

pub returns : goal.returns
returns g c = polled_comes_next
