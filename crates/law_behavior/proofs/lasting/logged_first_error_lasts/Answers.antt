use Rattle.law_behavior.proofs.Steadfast.{logged_first_error_lasts}
use Rattle.law_behavior.proofs.lasting.logged_first_error_lasts.Goals as goal

pub returns : goal.returns
returns g c = λ app limits m v log b first settled accepted stays h. logged_first_error_lasts app limits m v log b first settled accepted stays h
