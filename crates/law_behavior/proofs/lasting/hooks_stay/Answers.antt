use Rattle.law_behavior.proofs.Steadfast.{hooks_stay}
use Rattle.law_behavior.proofs.lasting.hooks_stay.Goals as goal

pub returns : goal.returns
returns g c = λ app w s polled cs owner index hook h. hooks_stay app w s polled cs owner index hook h
