use Rattle.law_reduce.proofs.Reports.{reports_reduce}
use Rattle.law_reduce.proofs.reducing.reports_reduce.Goals as goal

pub returns : goal.returns
returns g c = λ k a props inputs limits taken reports ran. reports_reduce _ k a props inputs limits taken reports ran
