use Rattle.law_behavior.proofs.MovesOwe.{logged_wakes_are_polled}
use Rattle.law_behavior.proofs.owing.logged_wakes_are_polled.Goals as goal

pub returns : goal.returns
returns g c = λ app limits m v log t settled accepted alive woken none. logged_wakes_are_polled app limits m v log t settled accepted alive woken none
