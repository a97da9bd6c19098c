use Rattle.law_behavior.proofs.Steadfast.{hooks_last}
use Rattle.law_behavior.proofs.lasting.hooks_last.Goals as goal

pub returns : goal.returns
returns g c = λ app limits m v moves owner index hook leads stays h. hooks_last app limits m v moves owner index hook leads stays h
