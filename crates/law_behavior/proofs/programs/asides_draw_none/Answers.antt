use Rattle.law_behavior.proofs.Carried.{asides_draw_none}
use Rattle.law_behavior.proofs.programs.asides_draw_none.Goals as goal

pub returns : goal.returns
returns g c = λ app. asides_draw_none app
