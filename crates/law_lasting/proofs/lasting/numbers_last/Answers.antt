use Rattle.law_lasting.proofs.Placed.{numbers_last}
use Rattle.law_lasting.proofs.lasting.numbers_last.Goals as goal

pub returns : goal.returns
returns g c = λ app limits m v moves s side p k number leads stays there some h. numbers_last app limits m v moves s side p k number leads stays there some h
