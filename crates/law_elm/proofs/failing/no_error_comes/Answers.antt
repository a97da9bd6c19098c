use Rattle.law_elm.proofs.Unthrown.{no_error_comes}
use Rattle.law_elm.proofs.failing.no_error_comes.Goals as goal

pub returns : goal.returns
returns g c = λ app limits m v moves b leads still none h. no_error_comes app limits m v moves b leads still none h
