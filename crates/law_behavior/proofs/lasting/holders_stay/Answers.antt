use Rattle.law_behavior.proofs.Held.{holders_stay}
use Rattle.law_behavior.proofs.lasting.holders_stay.Goals as goal

pub returns : goal.returns
returns g c = λ app w s polled cs b t none h. holders_stay app w s polled cs b t none h
