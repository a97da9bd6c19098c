use Rattle.law_reduce.proofs.Hooked.{cells_are_kept}
use Rattle.law_reduce.proofs.keeping.cells_are_kept.Goals as goal

pub returns : goal.returns
returns g c = λ app k limits m v moves s x own leads stays there keeps. cells_are_kept app k limits m v moves s x own leads stays there keeps
