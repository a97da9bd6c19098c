use Rattle.law_lasting.proofs.Celled.{cells_last}
use Rattle.law_lasting.proofs.lasting.cells_last.Goals as goal

pub returns : goal.returns
returns g c = λ app limits m v moves n row leads stays none h. cells_last app limits m v moves n row leads stays none h
