use Rattle.law_behavior.proofs.Steadfast.{first_error_stays}
use Rattle.law_behavior.proofs.lasting.first_error_stays.Goals as goal

pub returns : goal.returns
returns g c = λ app w s polled cs b first none h. first_error_stays app w s polled cs b first none h
