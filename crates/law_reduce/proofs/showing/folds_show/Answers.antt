use Rattle.law_reduce.proofs.Shown.{folds_show}
use Rattle.law_reduce.proofs.showing.folds_show.Goals as goal

pub returns : goal.returns
returns g c = λ k a props inputs limits taken reports h. folds_show _ k a props inputs limits taken reports h
