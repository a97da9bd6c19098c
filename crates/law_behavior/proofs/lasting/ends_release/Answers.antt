use Rattle.law_behavior.proofs.Held.{ends_release}
use Rattle.law_behavior.proofs.lasting.ends_release.Goals as goal

pub returns : goal.returns
returns g c = ends_release _
