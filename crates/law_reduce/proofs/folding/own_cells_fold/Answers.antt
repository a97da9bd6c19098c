use Rattle.law_reduce.proofs.Elm.{own_cells_fold}
use Rattle.law_reduce.proofs.folding.own_cells_fold.Goals as goal

pub returns : goal.returns
returns g c = λ k a props inputs limits taken reports ran. own_cells_fold _ k a props inputs limits taken reports ran
