use Rattle.law_reduce.proofs.Wrapping.{reports_wrapped}
use Rattle.law_reduce.proofs.keeping.reports_wrapped.Goals as goal

pub returns : goal.returns
returns g c = λ app lawful props inputs limits taken reports h. reports_wrapped app lawful props inputs limits taken reports h
