use Rattle.law_lasting.proofs.Celled.{cells_stay}
use Rattle.law_lasting.proofs.lasting.cells_stay.Goals as goal

pub returns : goal.returns
returns g c = λ app w s polled cs n row none h. cells_stay app w s polled cs n row none h
