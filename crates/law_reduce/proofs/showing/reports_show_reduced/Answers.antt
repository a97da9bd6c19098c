use Rattle.law_reduce.proofs.Shown.{reports_show_reduced}
use Rattle.law_reduce.proofs.showing.reports_show_reduced.Goals as goal

pub returns : goal.returns
returns g c = λ k a props inputs limits taken reports h. reports_show_reduced _ k a props inputs limits taken reports h
