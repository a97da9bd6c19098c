use Rattle.law_behavior.proofs.Providers.{nearest_provides}
use Rattle.law_behavior.proofs.reaching.nearest_provides.Goals as goal

pub returns : goal.returns
returns g c = nearest_provides _
