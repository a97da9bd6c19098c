use Rattle.law_lasting.proofs.Celled.{logged_cells_last}
use Rattle.law_lasting.proofs.lasting.logged_cells_last.Goals as goal

pub returns : goal.returns
returns g c = λ app limits m v log n row settled accepted stays h. logged_cells_last app limits m v log n row settled accepted stays h
