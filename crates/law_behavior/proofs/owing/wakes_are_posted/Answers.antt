use Rattle.law_behavior.proofs.Waking.{wakes_are_posted}
use Rattle.law_behavior.proofs.owing.wakes_are_posted.Goals as goal

pub returns : goal.returns
returns g c = wakes_are_posted _
