use Rattle.law_reduce.proofs.Bodies.{bodies_show}
use Rattle.law_reduce.proofs.showing.bodies_show.Goals as goal

pub returns : goal.returns
returns g c = λ a w current s x last k p there called component. bodies_show _ a w current s x last k p there called component
