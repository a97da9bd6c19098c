use Rattle.law_behavior.proofs.MovesOwe.{wakes_are_polled}
use Rattle.law_behavior.proofs.owing.wakes_are_polled.Goals as goal

pub returns : goal.returns
returns g c = λ app limits m v moves t leads alive woken none. wakes_are_polled app limits m v moves t leads alive woken none
