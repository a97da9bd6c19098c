use Rattle.law_behavior.proofs.Loops.{passed_comes_next}
use Rattle.law_behavior.proofs.programs.passed_comes_next.Goals as goal

pub returns : goal.returns
returns g c = passed_comes_next
