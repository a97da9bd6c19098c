-- A law.
use Rattle.law_minding.proofs.DrawnCells.{cells_are_drawn}
use Rattle.law_minding.proofs.laws.cells_are_drawn.Goals as goal

pub returns : goal.returns
returns g c = λ app. cells_are_drawn app
