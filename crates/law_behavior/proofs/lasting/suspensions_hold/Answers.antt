use Rattle.law_behavior.proofs.Held.{suspensions_hold}
use Rattle.law_behavior.proofs.lasting.suspensions_hold.Goals as goal

pub returns : goal.returns
returns g c = suspensions_hold _
