use Rattle.law_behavior.proofs.Steadfast.{first_error_lasts}
use Rattle.law_behavior.proofs.lasting.first_error_lasts.Goals as goal

pub returns : goal.returns
returns g c = λ app limits m v moves b first leads stays none h. first_error_lasts app limits m v moves b first leads stays none h
