use Rattle.law_behavior.proofs.Providers.{ways_are_short}
use Rattle.law_behavior.proofs.reaching.ways_are_short.Goals as goal

pub returns : goal.returns
returns g c = ways_are_short _
