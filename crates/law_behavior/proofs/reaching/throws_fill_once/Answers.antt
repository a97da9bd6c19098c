use Rattle.law_behavior.proofs.Readers.{throws_fill_once}
use Rattle.law_behavior.proofs.reaching.throws_fill_once.Goals as goal

pub returns : goal.returns
returns g c = throws_fill_once _
