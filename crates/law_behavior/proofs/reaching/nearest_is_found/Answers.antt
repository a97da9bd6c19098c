use Rattle.law_behavior.proofs.Climbs.{nearest_is_found}
use Rattle.law_behavior.proofs.reaching.nearest_is_found.Goals as goal

pub returns : goal.returns
returns g c = nearest_is_found _
