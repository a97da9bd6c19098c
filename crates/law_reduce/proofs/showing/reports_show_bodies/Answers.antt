use Rattle.law_reduce.proofs.Bodies.{reports_show_bodies}
use Rattle.law_reduce.proofs.showing.reports_show_bodies.Goals as goal

pub returns : goal.returns
returns g c = λ a props inputs limits taken reports h. reports_show_bodies _ a props inputs limits taken reports h
