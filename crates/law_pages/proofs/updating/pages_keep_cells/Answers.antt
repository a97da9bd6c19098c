use Rattle.law_pages.proofs.Keeping.{pages_keep_cells}
use Rattle.law_pages.proofs.updating.pages_keep_cells.Goals as goal

pub returns : goal.returns
returns g c = λ k a limits m v moves n row leads stays quiet h. pages_keep_cells _ k a limits m v moves n row leads stays quiet h
